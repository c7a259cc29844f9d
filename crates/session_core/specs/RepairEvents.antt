-- The events of a repair. Oracle: DBMS_REPAIR.SEGMENT_FIX_STATUS; that it settles one block an event is this engine's own.
use Rattle.std.specs.Prelude.{◌≡◌, ℕ, suc, Bool, true, false, cond, ltb, List, [], ◌∷◌, ◌++◌, length, slice_get, Option, Some, None}
use Rattle.seg_words.specs.Types.{Shape}
use Rattle.redo_model.specs.Model.{Extends}
use Rattle.session_laws.specs.Sessions.{own_backed}
use Rattle.scan_laws.specs.Staying.{is_released_since}
use Rattle.script_text.specs.declared.statement.Statement.TheVariants as asked
use Rattle.history_text.specs.declared.outcome.Outcome.TheVariants as outcome
use Rattle.history_model.specs.declared.history.Kept.TheVariants as kept
use Rattle.history_model.specs.Spans.{Span}
use Rattle.history_model.specs.Passing.{FirstPass}
use Rattle.session_model.specs.Repairs.{RepairStands, counted}
use Rattle.session_core.specs.declared.session.RepairWork.{RepairWork as Told}
use Rattle.session_core.specs.declared.session.Doing.TheVariants as told
use Rattle.session_core.specs.declared.repairing.Repaired.{Repaired}
use Rattle.session_core.specs.declared.turned.Turned.TheVariants as turned
use Rattle.session_core.specs.declared.turned.Acted.{Acted}
use Rattle.session_core.specs.RepairWorks.{repair_of}

-- ---- before an event

-- a repair of the table of this name that began with so many records is at this, and nothing of the session's transaction is
-- taken back
pub record IsRepairing (sh : Shape) (x : Span) (name : List ℕ) (begins : ℕ) (w : Told) : Type 0 where
  pub passed : FirstPass sh x (asked.Repair name)
  pub extends : Extends x.begun x.ended
  pub begins_is : begins ≡ length x.begun
  pub stands : RepairStands sh x name (repair_of w)
  pub whole : own_backed x.ended x.session ≡ false

-- its next block is this one, which wasn't released
pub record IsNext (sh : Shape) (x : Span) (w : Told) (b : ℕ) : Type 0 where
  pub next : slice_get w.blocks w.done ≡ Some b
  pub there : is_released_since sh (length x.begun) x.ended w.obj b ≡ false

-- ---- whether a block was released

-- an extent that a table got after the first n records, or none
abbrev pub is_later : ℕ → Option ℕ → Bool
is_later n None = true
is_later n (Some born) = ltb n born

-- ---- after one

abbrev pub begun_work : ℕ → List ℕ → Told
begun_work o bs = record { obj = o; blocks = bs; done = 0; settled = []; changed = 0 }

-- one more block had its event
abbrev pub next_done : Told → ℕ
next_done w = cond (ltb w.done (length w.blocks)) (suc w.done) w.done

abbrev pub past_next : Told → Told
past_next w = record { obj = w.obj; blocks = w.blocks; done = next_done w; settled = w.settled; changed = w.changed }

-- it was settled
abbrev pub with_settled : Told → Repaired → Told
with_settled w m = record { obj = w.obj; blocks = w.blocks; done = next_done w; settled = w.settled ++ m.settled ∷ []; changed = counted m.changed w.changed }

-- the repair goes on with the next block, or is over where none is left
abbrev pub repair_turned : Told → List ℕ → Option ℕ → Acted
repair_turned w name own = cond (ltb w.done (length w.blocks)) (record { turned = turned.On (told.Repairing w); own = own }) (record { turned = turned.Over (outcome.Repaired name w.changed) (kept.Repaired w.settled); own = own })
