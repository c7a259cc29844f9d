-- What a disk that stops means.
use Rattle.std.specs.Prelude.{◌≡◌, ℕ, ◌+◌, ◌-◌, ◌^◌, ◌≤◌, min}
use Rattle.std.proofs.Common.{sym, subst, arith}
use Rattle.disk_model.specs.Crash.{Meaning}
use Rattle.disk_model.specs.declared.stopping.Stopping.{Stopping}

abbrev pub inside : {D : Type 0} → Stopping D → D
inside s = s.disk

-- it was handed this disk, is to pass so many writes, and has failed no call
pub record IsPassing {D : Type 0} (disk : D) (writes : ℕ) (s : Stopping D) : Type 0 where
  pub disk_is : s.disk ≡ disk
  pub writes_left : s.left ≡ writes
  pub no_call : s.extra ≡ 0
  pub no_fault : s.fault_count ≡ 0

-- calls that were failed here come after all that the disk inside has answered
abbrev pub stopping_meaning : {D : Type 0} → Meaning D → Meaning (Stopping D)
stopping_meaning meaning = record {
  told = λ s. meaning.told s.disk;
  files = λ s. meaning.files s.disk;
  clock = λ s. min (meaning.clock s.disk + s.extra) (2 ^ 64 - 1);
  crash_at = λ s m image. meaning.crash_at s.disk (min m (meaning.clock s.disk)) image;
  fault_count = λ s. min (meaning.fault_count s.disk + s.fault_count) (2 ^ 64 - 1);
  log_reads = λ s. meaning.log_reads s.disk;
}

pub stopping_in_time : {D : Type 0} (meaning : Meaning D) (s : Stopping D) → (stopping_meaning meaning).clock s ≤ 2 ^ 64 - 1
stopping_in_time meaning s = omega arith

pub stopping_as_read : {D : Type 0} (meaning : Meaning D) → ((d : D) → meaning.clock d ≤ 2 ^ 64 - 1) → ((d : D) → meaning.told d → meaning.crash_at d (meaning.clock d) (meaning.files d))
    → (s : Stopping D) → meaning.told s.disk → (stopping_meaning meaning).crash_at s ((stopping_meaning meaning).clock s) (meaning.files s.disk)
stopping_as_read meaning in_time as_read s told =
    let now : min (min (meaning.clock s.disk + s.extra) (2 ^ 64 - 1)) (meaning.clock s.disk) ≡ meaning.clock s.disk = omega (arith, in_time s.disk) in
    subst (λ (n : ℕ). meaning.crash_at s.disk n (meaning.files s.disk)) (sym now) (as_read s.disk told)

-- a call that was failed here
pub record StopsHere {D : Type 0} (old new : Stopping D) : Type 0 where
  pub disk : new.disk ≡ old.disk
  pub extra : new.extra ≡ min (old.extra + 1) (2 ^ 64 - 1)
  pub faults : new.fault_count ≡ min (old.fault_count + 1) (2 ^ 64 - 1)
