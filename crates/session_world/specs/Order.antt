-- In which order the sessions of a run get their turns.
use Rattle.std.specs.Prelude.{ℕ, zero, suc, List, [], ◌∷◌, Result, Ok, Err}
use Rattle.seg_words.specs.Types.{Shape}
use Rattle.redo_model.specs.Records.{Record}
use Rattle.script_text.specs.declared.statement.Statement.{Statement}
use Rattle.script_text.specs.declared.statement.Turns.{Turns}
use Rattle.history_model.specs.declared.history.HistoryItem.{HistoryItem}
use Rattle.history_model.specs.History.{IsSession}
use Rattle.history_model.specs.Running.{IsRunning}
use Rattle.session_model.specs.Sessions.{HasEnded}
use Rattle.session_step.specs.Events.{IsTurn, IsPart}
use Rattle.session_world.specs.declared.fault.RunFault.{RunFault}

-- ---- whose turns, newest first, after those that were taken

-- so many of session w
abbrev pub after_item : ℕ → ℕ → List ℕ → List ℕ
after_item w zero called = called
after_item w (suc n) called = w ∷ after_item w n called

-- those of a schedule's items, in order
abbrev pub after_schedule : List Turns → List ℕ → List ℕ
after_schedule [] called = called
after_schedule (t ∷ ts) called = after_schedule ts (after_item t.who t.times called)

-- one of each of so many sessions, from session 1 on
abbrev pub after_round : ℕ → List ℕ → List ℕ
after_round zero called = called
after_round (suc n) called = suc n ∷ after_round n called

-- so many rounds of them
abbrev pub after_rounds : ℕ → ℕ → List ℕ → List ℕ
after_rounds count zero called = called
after_rounds count (suc k) called = after_round count (after_rounds count k called)

-- some turns, and then perhaps others
pub data Precedes (called : List ℕ) : List ℕ → Type 0 where
  precedes_same : Precedes called called
  precedes_more : (w : ℕ) (all : List ℕ) → Precedes called all → Precedes called (w ∷ all)

-- ---- what they made

-- Turns of these sessions, one after the other, made the records R of the records R0, and the history T. In each of them its
-- session made an event, after which the run is between two events, or it had ended and nothing was done, as for a number that no
-- session has.
pub data AreTurns (sh : Shape) (scripts : List (List Statement)) (R0 : List Record) : List ℕ → List Record → List HistoryItem → Type 0 where
  turns_none : AreTurns sh scripts R0 [] R0 []
  turn_made : (w : ℕ) (called : List ℕ) (Q R : List Record) (T U : List HistoryItem) → AreTurns sh scripts R0 called Q T → IsTurn sh scripts w Q T R U → (moment : ℕ) → IsRunning sh scripts R0 R U moment → AreTurns sh scripts R0 (w ∷ called) R U
  turn_passed : (w : ℕ) (called : List ℕ) (R : List Record) (T : List HistoryItem) → AreTurns sh scripts R0 called R T → (IsSession scripts w → HasEnded scripts R T w) → AreTurns sh scripts R0 (w ∷ called) R T

-- the same where the last one may have failed on its way
pub data AreTurnsSoFar (sh : Shape) (scripts : List (List Statement)) (R0 : List Record) : List ℕ → List Record → List HistoryItem → Type 0 where
  turns_whole : (called : List ℕ) (R : List Record) (T : List HistoryItem) → AreTurns sh scripts R0 called R T → AreTurnsSoFar sh scripts R0 called R T
  turn_part : (w : ℕ) (called : List ℕ) (Q R : List Record) (T U : List HistoryItem) → AreTurns sh scripts R0 called Q T → IsPart sh scripts w Q T R U → AreTurnsSoFar sh scripts R0 (w ∷ called) R U

-- of all these turns the first ones
pub record AreFirstTurns (sh : Shape) (scripts : List (List Statement)) (R0 : List Record) (all : List ℕ) (R : List Record) (T : List HistoryItem) : Type 0 where
  pub called : List ℕ
  pub first : Precedes called all
  pub turns : AreTurnsSoFar sh scripts R0 called R T

-- at Ok all of them were taken, and else the first ones
abbrev pub FollowsTurns : {A : Type 0} → Shape → List (List Statement) → List Record → List ℕ → List Record → List HistoryItem → Result A RunFault → Type 0
FollowsTurns sh scripts R0 all R T (Ok a) = AreTurns sh scripts R0 all R T
FollowsTurns sh scripts R0 all R T (Err f) = AreFirstTurns sh scripts R0 all R T
