-- What is true of a run of many sessions between its events, and at its end. This engine's own.
use Rattle.std.specs.Prelude.{◌≡◌, ℕ, true, false, List, MatchOption, Option, Some, None}
use Rattle.seg_words.specs.Types.{Shape}
use Rattle.redo_model.specs.Records.{Record}
use Rattle.redo_model.specs.Model.{is_active}
use Rattle.session_laws.specs.Sessions.{own_of, own_backed}
use Rattle.script_text.specs.declared.statement.Statement.{Statement}
use Rattle.history_model.specs.declared.history.HistoryItem.{HistoryItem}
use Rattle.history_model.specs.History.{Task, IsSession, statement_of, under_way, AreInTime, IsOver}
use Rattle.history_model.specs.Spans.{Span, now_of}
use Rattle.history_model.specs.SoFar.{SoFar, has_more_events}
use Rattle.history_model.specs.Passing.{FirstPass}
use Rattle.history_model.specs.Legal.{IsLegal}

-- A statement on its way has events to come. It came past the tests of its beginning, and has done what goes before its last
-- event, which makes its entry.
pub record IsOnItsWay (sh : Shape) (x : Span) (st : Option Statement) : Type 0 where
  pub more : has_more_events st ≡ true
  pub first : MatchOption st (Unit {0}) (λ s. FirstPass sh x s)
  pub so_far : SoFar x st

-- The history so far is legal. Its moments never fall and are at most this one, the disk's clock. What is under way is on its
-- way. A session with nothing under way has taken back nothing of its transaction, and each active transaction is of a session of
-- the scripts.
pub record IsRunning (sh : Shape) (scripts : List (List Statement)) (R0 R : List Record) (T : List HistoryItem) (moment : ℕ) : Type 0 where
  pub legal : IsLegal sh scripts R0 R T
  pub in_time : AreInTime moment T
  pub under : (w : ℕ) (task : Task) → under_way T w ≡ Some task → IsOnItsWay sh (now_of scripts R w task) (statement_of scripts w task.place)
  pub whole : (w : ℕ) → under_way T w ≡ None → own_backed R w ≡ false
  pub known : (w t : ℕ) → own_of R w ≡ Some t → IsSession scripts w

-- at the end each statement has its entry, nothing is under way, and no transaction is active
pub record IsAtEnd (sh : Shape) (scripts : List (List Statement)) (R0 R : List Record) (T : List HistoryItem) (moment : ℕ) : Type 0 where
  pub running : IsRunning sh scripts R0 R T moment
  pub over : IsOver scripts T
  pub none_active : (t : ℕ) → is_active R t ≡ false
