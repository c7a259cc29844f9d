-- What an update or a delete answers at the place of its row, as the cause of the statement's refusal.
use Rattle.std.specs.Prelude.{◌≡◌, ℕ, List, length, MatchOption, Option, Some}
use Rattle.seg_words.specs.Types.{Shape, Rowid}
use Rattle.change_laws.specs.Drafts.{delete_of}
use Rattle.change_laws.specs.Ready.{ToOther, path_of}
use Rattle.change_laws.specs.Looks.{IsFreeNow}
use Rattle.change_laws.specs.Answers.{change_by, stand_at, MeansBusy, MeansTaken, MeansSpent}
use Rattle.script_text.specs.declared.statement.Statement.{Statement}
use Rattle.script_text.specs.declared.statement.Statement.TheVariants as asked
use Rattle.script_text.specs.declared.statement.Target.{Target}
use Rattle.history_model.specs.Spans.{Span, own_then}
use Rattle.history_model.specs.Causes.{IsOnRow, IsRowBusy, must_change, IsEntryless, own_blocks, sought_for, UpdateSeeks, IsFound, IsNoUndo}

-- the row is busy
abbrev pub BusyAnswers : Type 0
BusyAnswers = (x : Span) (st : Statement) (o n start u : ℕ) → IsOnRow x st o n → MeansBusy x.ended (own_then x) o n start u → IsRowBusy x st u

-- a block that must be changed has no list entry
abbrev pub TakenAnswers : Type 0
TakenAnswers =
    (x : Span) (st : Statement) (o n : ℕ) (p : Rowid) (start : ℕ) (ts : List ℕ) → IsOnRow x st o n → MeansTaken x.ended (own_then x) o n p start (must_change x st (stand_at x.ended p)) ts → IsEntryless x st ts

-- another block is needed: what is looked for
abbrev pub NeedsSeek : Type 0
NeedsSeek =
    (x : Span) (name : List ℕ) (target : Target) (text : List ℕ) (o n : ℕ) (p : Rowid) (start : ℕ) → IsOnRow x (asked.Update name target text) o n → IsFreeNow x.ended (own_then x) o n p start
    → path_of x.ended (own_then x) (stand_at x.ended p) (length text) ≡ ToOther → UpdateSeeks x (asked.Update name target text) text (sought_for (own_then x) o (length text) (own_blocks (stand_at x.ended p)))

-- undo is full
abbrev pub SpentUpdates : Type 0
SpentUpdates =
    (sh : Shape) (x : Span) (name : List ℕ) (target : Target) (text : List ℕ) (o n : ℕ) (p : Rowid) (start : ℕ) (bs : List ℕ) (to : Option ℕ) (hs : List (ℕ × ℕ)) → IsOnRow x (asked.Update name target text) o n
    → MatchOption to (Unit {0}) (λ b. IsFound sh x (asked.Update name target text) b)
    → MeansSpent sh x.ended (own_then x) o n p start bs (change_by x.ended o n (stand_at x.ended p) text to (path_of x.ended (own_then x) (stand_at x.ended p) (length text))) hs → IsNoUndo sh x (asked.Update name target text) hs

abbrev pub SpentDeletes : Type 0
SpentDeletes =
    (sh : Shape) (x : Span) (name : List ℕ) (target : Target) (o n : ℕ) (p : Rowid) (start : ℕ) (bs : List ℕ) (hs : List (ℕ × ℕ)) → IsOnRow x (asked.Delete name target) o n
    → MeansSpent sh x.ended (own_then x) o n p start bs (Some (delete_of o n (stand_at x.ended p))) hs → IsNoUndo sh x (asked.Delete name target) hs
