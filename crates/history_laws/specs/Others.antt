-- What an event of one session leaves of the work of another.
use Rattle.std.specs.Prelude.{◌≡◌, ◌≢◌, ℕ, ◌≤◌, false, ltb, List, [], ◌∷◌, length, Option}
use Rattle.seg_words.specs.Types.{Shape}
use Rattle.redo_record.specs.declared.record.Record.TheVariants as made
use Rattle.redo_model.specs.Records.{Record}
use Rattle.redo_model.specs.Model.{AreAllowed}
use Rattle.session_laws.specs.Sessions.{own_of, IsOf}
use Rattle.script_text.specs.declared.statement.Statement.{Statement}
use Rattle.history_model.specs.declared.history.HistoryItem.{HistoryItem}
use Rattle.history_model.specs.History.{Task}
use Rattle.history_model.specs.Spans.{Span}
use Rattle.history_laws.specs.Events.{Goes}
use Rattle.history_laws.specs.Working.{now_of, grown, Work, Shrinking, Lowering, WorkStands, work_after, work_since}

-- the record is no Move, Lower or Movement of table o: what nobody but the shrink of the table may add while it is under way
abbrev pub Spares : Record → ℕ → Type 0
Spares (made.Move m) o = m.obj ≢ o
Spares (made.Lower l) o = l.obj ≢ o
Spares (made.Movement m) o = m.obj ≢ o
Spares r o = Unit {0}

-- it spares the table that a work shrinks
abbrev pub SparesWork : Work → Record → Type 0
SparesWork (Shrinking k) r = Spares r k.obj
SparesWork (Lowering k) r = Spares r k.obj
SparesWork k r = Unit {0}

-- each record after the first n does
abbrev pub SparesSince : Work → ℕ → List Record → Type 0
SparesSince k n [] = Unit {0}
SparesSince k n (r ∷ R) = (ltb (length R) n ≡ false → SparesWork k r) × SparesSince k n R

-- one record of another session
abbrev pub RecordsLeaveWork : Type 0
RecordsLeaveWork =
    (sh : Shape) (x : Span) (st : Option Statement) (k : Work) (r : Record) (v : ℕ) → AreAllowed sh (r ∷ x.ended) → v ≢ x.session → IsOf x.ended v r → SparesWork k r → WorkStands sh x st k → WorkStands sh (grown x r) st (work_after sh r k)

-- an event of another session
abbrev pub EventsLeaveWork : Type 0
EventsLeaveWork =
    (sh : Shape) (scripts : List (List Statement)) (T : List HistoryItem) (v : ℕ) (Q R : List Record) (w : ℕ) (task : Task) (st : Option Statement) (k : Work) → AreAllowed sh R → v ≢ w → Goes sh scripts T v Q R → task.begins ≤ length Q
    → SparesSince k (length Q) R → WorkStands sh (now_of scripts Q w task) st k → WorkStands sh (now_of scripts R w task) st (work_since sh (length Q) R k)

-- it leaves the session's transaction too: one that has ended stays so
abbrev pub EventsLeaveTransactions : Type 0
EventsLeaveTransactions = (sh : Shape) (scripts : List (List Statement)) (T : List HistoryItem) (v : ℕ) (Q R : List Record) (w : ℕ) → AreAllowed sh R → v ≢ w → Goes sh scripts T v Q R → own_of R w ≡ own_of Q w
