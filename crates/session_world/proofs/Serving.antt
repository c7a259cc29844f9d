-- Calls of a run, one after the other, of any store and any sink.
use Rattle.std.proofs.Common.{◌≡◌, ℕ, refl, ◌∙◌, ap, le_refl, le_trans}
use Rattle.std.specs.Prelude.{None, Result, Ok, Err, IsErrOf}
use Rattle.disk_model.specs.Crash.{Meaning}
use Rattle.disk_model.proofs.Going.{rose_later}
use Rattle.store_core.specs.Store.{Held}
use Rattle.store_core.specs.declared.fault.StoreFault.TheVariants.{NoMemory}
use Rattle.session_core.specs.Acting.{KeepsLoan}
use Rattle.session_world.specs.declared.fault.RunFault.{RunFault}
use Rattle.session_world.specs.declared.fault.RunFault.TheVariants as stops
use Rattle.session_world.specs.Calling.{HasServed}

keeps_same : {D : Type 0} (meaning : Meaning D) (s : Held D) → KeepsLoan meaning s s
keeps_same meaning s = record { loan = refl; first = refl; shape = refl; told = (λ h. h, λ h. h); faults = le_refl _; reads = refl }

keeps_on : {D : Type 0} (meaning : Meaning D) (a b c : Held D) → KeepsLoan meaning a b → KeepsLoan meaning b c → KeepsLoan meaning a c
keeps_on meaning a b c p q = record {
  loan = q.loan ∙ p.loan;
  first = q.first ∙ p.first;
  shape = q.shape ∙ p.shape;
  told = (λ h. p.told.0 (q.told.0 h), λ h. q.told.1 (p.told.1 h));
  faults = le_trans p.faults q.faults;
  reads = q.reads ∙ p.reads;
}

-- nothing was called
pub served_same : {D A : Type 0} (meaning : Meaning D) (s : Held D) (n : ℕ) (x : A) → s.fault ≡ None → HasServed {A = A} meaning s s n n (Ok x)
served_same meaning s n x unspent = record { loan = keeps_same meaning s; device = λ e. absurd (cc e); write = λ e. absurd (cc e); later = le_refl n; unspent = unspent }

-- one call after another
pub served_on : {D A B : Type 0} (meaning : Meaning D) (a b c : Held D) (l m n : ℕ) (x : A) (r : Result B RunFault) → HasServed {A = A} meaning a b l m (Ok x) → HasServed {A = B} meaning b c m n r → HasServed {A = B} meaning a c l n r
served_on meaning a b c l m n x r p q = record {
  loan = keeps_on meaning a b c p.loan q.loan;
  device = λ e. rose_later (meaning.fault_count a.disk) (meaning.fault_count b.disk) (meaning.fault_count c.disk) p.loan.faults (q.device e);
  write = λ e. rose_later l m n p.later (q.write e);
  later = le_trans p.later q.later;
  unspent = q.unspent;
}

-- ---- the same answered in other words

pub served_ok : {D A B : Type 0} (meaning : Meaning D) (a b : Held D) (m n : ℕ) (x : A) (y : B) → HasServed {A = A} meaning a b m n (Ok x) → HasServed {A = B} meaning a b m n (Ok y)
served_ok meaning a b m n x y h = record { loan = h.loan; device = λ e. absurd (cc e); write = λ e. absurd (cc e); later = h.later; unspent = h.unspent }

abbrev fault_or : {A : Type 0} → RunFault → Result A RunFault → RunFault
fault_or d (Ok x) = d
fault_or d (Err f) = f

err_as : {A B : Type 0} (f e : RunFault) → IsErrOf {T = A} (Err f) e → IsErrOf {T = B} (Err f) e
err_as {A} {B} f e h = ap (λ (z : RunFault). Err z) (ap (fault_or {A = A} f) h)

pub served_err : {D A B : Type 0} (meaning : Meaning D) (a b : Held D) (m n : ℕ) (f : RunFault) → HasServed {A = A} meaning a b m n (Err f) → HasServed {A = B} meaning a b m n (Err f)
served_err {D} {A} {B} meaning a b m n f h = record { loan = h.loan; device = λ e. h.device (err_as {A = B} {B = A} f _ e); write = λ e. h.write (err_as {A = B} {B = A} f _ e); later = h.later; unspent = tt }

-- it stops after all for want of memory
pub served_lacking : {D A B : Type 0} (meaning : Meaning D) (a b : Held D) (m n : ℕ) (x : A) → HasServed {A = A} meaning a b m n (Ok x) → HasServed {A = B} meaning a b m n (Err (stops.Store NoMemory))
served_lacking meaning a b m n x h = record { loan = h.loan; device = λ e. absurd (cc e); write = λ e. absurd (cc e); later = h.later; unspent = tt }
