-- What calls of a run do to any store and any sink.
use Rattle.std.specs.Prelude.{◌≡◌, ℕ, ◌≤◌, None, Result, OnOk, IsErrOf}
use Rattle.seg_words.specs.Types.{Rose}
use Rattle.disk_model.specs.Crash.{Meaning}
use Rattle.store_core.specs.Store.{Held}
use Rattle.store_core.specs.declared.fault.StoreFault.TheVariants.{DeviceFault}
use Rattle.session_core.specs.Acting.{KeepsLoan}
use Rattle.session_world.specs.declared.fault.RunFault.{RunFault}
use Rattle.session_world.specs.declared.fault.RunFault.TheVariants as stops

-- The store keeps its loan. The disk is blamed only where its count of faults rose, and so is the sink, whose count was `before` and
-- is `after`. At Ok the store has no fault.
pub record HasServed {D A : Type 0} (meaning : Meaning D) (old new : Held D) (before after : ℕ) (result : Result A RunFault) : Type 0 where
  pub loan : KeepsLoan meaning old new
  pub device : IsErrOf result (stops.Store DeviceFault) → Rose (meaning.fault_count old.disk) (meaning.fault_count new.disk)
  pub write : IsErrOf result stops.WriteFault → Rose before after
  pub later : before ≤ after
  pub unspent : OnOk result (new.fault ≡ None)
