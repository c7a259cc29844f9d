-- What a session is doing between two events. This engine's own.
use Rattle.std.specs.Prelude.{◌≡◌, ℕ, Bool, true, false, List, Option}
use Rattle.seg_words.specs.Types.{Shape}
use Rattle.redo_model.specs.Records.{Record}
use Rattle.script_text.specs.declared.statement.Statement.{Statement}
use Rattle.history_model.specs.Spans.{Span}
use Rattle.history_laws.specs.Working.{Work, TakingBack, Shrinking, Lowering, WorkStands, work_since}
use Rattle.history_laws.specs.Others.{SparesSince}
use Rattle.session_model.specs.Repairs.{RepairWork, RepairFits}

-- It waits with its next statement, or is at the work of one that is under way. Between the events of a settling it may be at
-- either.
pub data Doing : Type 0 where
  Waiting : Doing
  Working : Work → Doing
  Repairing : RepairWork → Doing

-- the statement is under way, and so far
abbrev pub DoingFits : Shape → Span → Option Statement → Doing → Type 0
DoingFits sh x st Waiting = ⊥
DoingFits sh x st (Working k) = WorkStands sh x st k
DoingFits sh x st (Repairing k) = RepairFits sh x st k

-- it takes its transaction back
abbrev pub work_takes_back : Work → Bool
work_takes_back (TakingBack t) = true
work_takes_back _ = false

abbrev pub takes_back : Doing → Bool
takes_back (Working k) = work_takes_back k
takes_back _ = false

-- it shrinks table o
abbrev pub WorkShrinks : Work → ℕ → Type 0
WorkShrinks (Shrinking k) o = k.obj ≡ o
WorkShrinks (Lowering k) o = k.obj ≡ o
WorkShrinks _ o = ⊥

abbrev pub ShrinksOn : Doing → ℕ → Type 0
ShrinksOn (Working k) o = WorkShrinks k o
ShrinksOn _ o = ⊥

-- the records after the first n are none that only its shrink may add
abbrev pub SparesDoing : Doing → ℕ → List Record → Type 0
SparesDoing (Working k) n R = SparesSince k n R
SparesDoing _ n R = Unit {0}

-- after an event of another session: a scan is marked by what it released
abbrev pub doing_since : Shape → ℕ → List Record → Doing → Doing
doing_since sh n R (Working k) = Working (work_since sh n R k)
doing_since sh n R d = d
