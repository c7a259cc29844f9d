-- What an event of a session does to a run, but for its lines.
use Rattle.std.specs.Prelude.{◌≡◌, ℕ, suc, ◌≤◌, List, Result, OnErr, IfOk, IfErr}
use Rattle.disk_model.specs.Crash.{Meaning}
use Rattle.redo_model.specs.Records.{Record}
use Rattle.script_text.specs.declared.statement.Statement.{Statement}
use Rattle.history_model.specs.History.{IsSession, AreInTime}
use Rattle.history_model.specs.Legal.{IsLegal}
use Rattle.session_model.specs.Sessions.{HasEnded}
use Rattle.store_core.specs.Store.{Held, IsTrue}
use Rattle.store_core.specs.Survives.{Survives}
use Rattle.store_core.specs.Causes.{IsSoundFault}
use Rattle.store_core.specs.declared.fault.StoreFault.{StoreFault}
use Rattle.session_step.specs.declared.session.Turn.{Turn}
use Rattle.session_step.specs.declared.session.Turn.TheVariants as turns
use Rattle.session_step.specs.Telling.{Grows, IsEntryOf, OfNewest}
use Rattle.session_step.specs.Events.{TurnMakes}
use Rattle.session_world.specs.declared.events.Run.{Run}
use Rattle.session_world.specs.Seats.{told_at}
use Rattle.session_world.specs.Between.{IsRunAt}

-- a session that has ended is passed over
pub record IsStill {D : Type 0} (meaning : Meaning D) (scripts : List (List Statement)) (R0 R : List Record) (who : ℕ) (new : Held D) (was run : Run) : Type 0 where
  pub at : IsRunAt meaning scripts R0 R new run
  pub same : run.history ≡ was.history
  pub ended : IsSession scripts who → HasEnded scripts R run.history who

-- an event was made, and these are the records
abbrev pub Turns : {D : Type 0} → Meaning D → List (List Statement) → List Record → List Record → List Record → ℕ → Held D → Run → Run → Turn → Type 0
Turns meaning scripts R0 R records who new was run turns.Made = IsRunAt meaning scripts R0 records new run
Turns meaning scripts R0 R records who new was run turns.Ended = IsStill meaning scripts R0 R who new was run × (records ≡ R)

-- An event of session `who` of a run with the records R. Whatever it answers, its records and its history are legal, and what
-- survived a crash goes on surviving it.
pub record HasMoved {D : Type 0} (meaning : Meaning D) (scripts : List (List Statement)) (R0 R : List Record) (who : ℕ) (old new : Held D) (was run : Run) (result : Result Turn StoreFault) : Type 0 where
  pub records : List Record
  pub stands : IsTrue meaning records new
  pub shape : new.shape ≡ old.shape
  pub legal : IsLegal old.shape scripts R0 records run.history
  pub in_time : AreInTime (meaning.clock new.disk) run.history
  pub grows : Grows (told_at was.seats.items who) (told_at run.seats.items who) was.history run.history
  pub entry : (told_at run.seats.items who).told ≡ suc (told_at was.seats.items who).told → OfNewest (IsEntryOf meaning who records new) run.history
  pub untold : OnErr result ((told_at run.seats.items who).told ≡ (told_at was.seats.items who).told)
  pub survives : (since : ℕ) (needed : ℕ → ℕ) → Survives meaning since needed R old → Survives meaning since needed records new
  pub time : meaning.clock old.disk ≤ meaning.clock new.disk
  pub turns : IfOk result (Turns meaning scripts R0 R records who new was run)
  pub makes : TurnMakes old.shape scripts who R was.history records run.history result
  pub sound : IfErr result IsSoundFault
