-- A run with the store and the sink that it was lent.
use Rattle.std.specs.Prelude.{◌≡◌, Option, Some, None, Result, Ok, Err}
use Rattle.std.specs.Borrow.{GName}
use Rattle.session_step.specs.declared.forms.TheConstants.{BUILT_FORMS}
use Rattle.script_text.specs.Script.{Script}
use Rattle.script_text.specs.Spelled.{IsScript}
use Rattle.store_core.specs.Store.{Held}
use Rattle.session_world.specs.declared.events.Run.{Run}
use Rattle.session_world.specs.declared.fault.RunFault.{RunFault}

-- the store, what the sessions of the script are at, the sink with its loan, and the fault that spent it
pub record Lent (D K : Type 0) : Type 0 where
  pub store : Held D
  pub run : Run
  pub script : Script
  pub sink : K
  pub sink_loan : GName
  pub fault : Option RunFault

-- the events of its script are built, and while it isn't spent its store isn't
pub record IsLent {D K : Type 0} (w : Lent D K) : Type 0 where
  pub built : IsScript BUILT_FORMS w.script
  pub unspent : w.fault ≡ None → w.store.fault ≡ None

-- the fault of an answer
abbrev pub fault_in : {A : Type 0} → Result A RunFault → Option RunFault
fault_in (Ok a) = None
fault_in (Err f) = Some f
