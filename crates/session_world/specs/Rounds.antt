-- A round of turns of all sessions, from session 1 on.
use Rattle.std.specs.Prelude.{◌≡◌, ℕ, ◌≤◌, ◌∷◌, Bool, true, false, List, length, Option, Result, Ok, Err}
use Rattle.disk_model.specs.Crash.{Meaning}
use Rattle.redo_model.specs.Records.{Record}
use Rattle.script_text.specs.declared.statement.Statement.{Statement}
use Rattle.session_model.specs.Sessions.{HasEnded}
use Rattle.store_core.specs.Store.{Held}
use Rattle.session_world.specs.declared.fault.RunFault.{RunFault}
use Rattle.session_world.specs.declared.events.Run.{Run}
use Rattle.session_world.specs.Order.{after_round, after_rounds}
use Rattle.session_world.specs.Whole.{HasRunTurns}
use Rattle.session_world.specs.Between.{IsSoFar, IsOn, IsIdle, IsPassedOver}

-- the first so many sessions had ended, and the records and the history are as they were
pub record ArePassedOver {D : Type 0} (meaning : Meaning D) (scripts : List (List Statement)) (R0 R : List Record) (called : List ℕ) (count : ℕ) (first now : Held D) (before after : Option (List ℕ)) (was run : Run) : Type 0 where
  pub so_far : IsSoFar meaning scripts R0 R (after_round count called) first now before after run
  pub same : run.history ≡ was.history
  pub ended : (w : ℕ) → 1 ≤ w → w ≤ count → HasEnded scripts R run.history w

-- after the turns of so many sessions, whether one of them made an event
abbrev pub IsRound : {D : Type 0} → Meaning D → List (List Statement) → List Record → List Record → List ℕ → ℕ → Held D → Held D → Option (List ℕ) → Option (List ℕ) → Run → Run → Bool → Type 0
IsRound meaning scripts R0 R called count first now before after was run true = IsOn meaning scripts R0 (after_round count called) first now before after run
IsRound meaning scripts R0 R called count first now before after was run false = ArePassedOver meaning scripts R0 R called count first now before after was run

-- whether the session made an event
abbrev pub HasTurned : {D : Type 0} → Meaning D → List (List Statement) → List Record → List Record → List ℕ → ℕ → Held D → Held D → Option (List ℕ) → Option (List ℕ) → Run → Run → Result Bool RunFault → Type 0
HasTurned meaning scripts R0 R called who first now before after was run (Ok true) = IsOn meaning scripts R0 (who ∷ called) first now before after run
HasTurned meaning scripts R0 R called who first now before after was run (Ok false) = IsPassedOver meaning scripts R0 R called who first now before after was run
HasTurned meaning scripts R0 R called who first now before after was run (Err f) = HasRunTurns meaning scripts R0 (who ∷ called) first now before after (Err f)

-- whether any session did
abbrev pub HasGoneRound : {D : Type 0} → Meaning D → List (List Statement) → List Record → List ℕ → Held D → Held D → Option (List ℕ) → Option (List ℕ) → Run → Result Bool RunFault → Type 0
HasGoneRound meaning scripts R0 called first now before after run (Ok true) = IsOn meaning scripts R0 (after_round (length scripts) called) first now before after run
HasGoneRound meaning scripts R0 called first now before after run (Ok false) = IsIdle meaning scripts R0 (after_round (length scripts) called) first now before after run
HasGoneRound meaning scripts R0 called first now before after run (Err f) = HasRunTurns meaning scripts R0 (after_round (length scripts) called) first now before after (Err f)

-- after so many rounds each session has ended
pub record IsAtRest {D : Type 0} (meaning : Meaning D) (scripts : List (List Statement)) (R0 : List Record) (called : List ℕ) (first now : Held D) (before after : Option (List ℕ)) (run : Run) : Type 0 where
  pub rounds : ℕ
  pub idle : IsIdle meaning scripts R0 (after_rounds (length scripts) rounds called) first now before after run

-- or the run stopped within them
pub record StopsInRounds {D : Type 0} (meaning : Meaning D) (scripts : List (List Statement)) (R0 : List Record) (called : List ℕ) (first now : Held D) (before after : Option (List ℕ)) (f : RunFault) : Type 0 where
  pub rounds : ℕ
  pub stopped : HasRunTurns meaning scripts R0 (after_rounds (length scripts) rounds called) first now before after (Err f)

-- and so on to the end
abbrev pub HasComeToEnd : {D : Type 0} → Meaning D → List (List Statement) → List Record → List ℕ → Held D → Held D → Option (List ℕ) → Option (List ℕ) → Run → Result (Unit {0}) RunFault → Type 0
HasComeToEnd meaning scripts R0 called first now before after run (Ok u) = IsAtRest meaning scripts R0 called first now before after run
HasComeToEnd meaning scripts R0 called first now before after run (Err f) = StopsInRounds meaning scripts R0 called first now before after f
