-- What an event of one session adds: perhaps a start, then records that its statement makes, then perhaps an entry. This
-- engine's own.
use Rattle.std.specs.Prelude.{◌≡◌, ◌≢◌, ◌⊎◌, ℕ, List, ◌∷◌, Some}
use Rattle.seg_words.specs.Types.{Shape}
use Rattle.redo_record.specs.declared.record.Record.TheVariants as made
use Rattle.redo_model.specs.Records.{Record}
use Rattle.script_text.specs.declared.statement.Statement.{Statement}
use Rattle.history_model.specs.declared.history.HistoryItem.{HistoryItem}
use Rattle.history_model.specs.History.{Task, statement_of, under_way}
use Rattle.history_model.specs.Makes.{Makes}
use Rattle.history_model.specs.Legal.{StatesClass, IsCleaning}

-- the statement of session w that is under way makes the record r after the records R
pub record Does (sh : Shape) (scripts : List (List Statement)) (T : List HistoryItem) (w : ℕ) (R : List Record) (r : Record) : Type 0 where
  pub task : Task
  pub now : under_way T w ≡ Some task
  pub makes : Makes sh scripts task.past w (statement_of scripts w task.place) R r

-- and no statement of another session that is under way does
pub record DoesAlone (sh : Shape) (scripts : List (List Statement)) (T : List HistoryItem) (w : ℕ) (R : List Record) (r : Record) : Type 0 where
  pub does : Does sh scripts T w R r
  pub alone : (v : ℕ) → v ≢ w → Does sh scripts T v R r → ⊥

-- Why an event of session w may add the record r to the records R. Of a record of a transaction no other session's statement can
-- be the maker. A Clean and a Class that settle a block are of no statement.
abbrev pub MayAdd : Shape → List (List Statement) → List HistoryItem → ℕ → List Record → Record → Type 0
MayAdd sh scripts T w R (made.Class k) = StatesClass R k ⊎ DoesAlone sh scripts T w R (made.Class k)
MayAdd sh scripts T w R (made.Clean c) = IsCleaning R c
MayAdd sh scripts T w R (made.Reuse q) = Unit {0}
MayAdd sh scripts T w R (made.Extend e) = (e.index ≡ 0) ⊎ Does sh scripts T w R (made.Extend e)
MayAdd sh scripts T w R (made.Table t) = DoesAlone sh scripts T w R (made.Table t)
MayAdd sh scripts T w R (made.Movement m) = DoesAlone sh scripts T w R (made.Movement m)
MayAdd sh scripts T w R (made.Lower l) = DoesAlone sh scripts T w R (made.Lower l)
MayAdd sh scripts T w R (made.Move m) = DoesAlone sh scripts T w R (made.Move m)
MayAdd sh scripts T w R r = Does sh scripts T w R r

-- R is Q with records that an event of session w may add, whether the event came to its end or not
pub data Goes (sh : Shape) (scripts : List (List Statement)) (T : List HistoryItem) (w : ℕ) (Q : List Record) : List Record → Type 0 where
  goes_none : Goes sh scripts T w Q Q
  goes_one : {R : List Record} (r : Record) → Goes sh scripts T w Q R → MayAdd sh scripts T w R r → Goes sh scripts T w Q (r ∷ R)
