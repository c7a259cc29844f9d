-- What two real files mean: they tell nothing of what they hold, only their clock and their count of faults.
use Rattle.std.specs.Prelude.{◌≡◌, ℕ, []}
use Rattle.disk_model.specs.Types.{Meaning}

-- of any disk with these two numbers
abbrev pub untold : {D : Type 0} → (D → ℕ) → (D → ℕ) → Meaning D
untold clock faults = record {
  told = λ _. ⊥;
  files = λ _. record { data_bytes = []; log_bytes = [] };
  clock = clock;
  crash_at = λ _ _ _. ⊥;
  fault_count = faults;
  log_reads = λ _. 0;
}

-- no call yet, and no fault
pub record StartsAtZero {D : Type 0} (meaning : Meaning D) (disk : D) : Type 0 where
  pub no_call : meaning.clock disk ≡ 0
  pub no_fault : meaning.fault_count disk ≡ 0
