-- The events of a shrink. Oracle Database Administrator's Guide, "Shrinking Database Segments Online"; that it goes one step an
-- event is this engine's own.
use Rattle.std.specs.Prelude.{◌≡◌, ℕ, suc, ◌+◌, Bool, true, false, List, length, Option, Result, Ok, Err}
use Rattle.seg_words.specs.Types.{Shape}
use Rattle.redo_model.specs.Model.{Extends}
use Rattle.session_laws.specs.Sessions.{own_backed}
use Rattle.script_text.specs.declared.statement.Statement.TheVariants as asked
use Rattle.history_text.specs.declared.outcome.Outcome.TheVariants as outcome
use Rattle.history_text.specs.declared.refusal.Refusal.{Refusal}
use Rattle.history_text.specs.declared.refusal.Refusal.TheVariants as why
use Rattle.history_model.specs.declared.history.Kept.TheVariants as kept
use Rattle.history_model.specs.Spans.{Span}
use Rattle.history_model.specs.Passing.{FirstPass}
use Rattle.history_laws.specs.Working.{ShrinkStands, StoppedStands}
use Rattle.store_core.specs.declared.fault.StoreFault.{StoreFault}
use Rattle.store_core.specs.declared.lowered.Lowered.{Lowered}
use Rattle.shrink_move.specs.declared.fault.ShrinkFault.{ShrinkFault}
use Rattle.shrink_move.specs.declared.fault.ShrinkFault.TheVariants as faults
use Rattle.shrink_move.specs.declared.shrink.Shrink.{Shrink}
use Rattle.shrink_move.specs.declared.stepping.ShrinkStep.{ShrinkStep}
use Rattle.shrink_move.specs.declared.stepping.ShrinkStep.TheVariants as steps
use Rattle.session_core.specs.declared.session.Doing.{Doing}
use Rattle.session_core.specs.declared.session.Doing.TheVariants as told
use Rattle.session_core.specs.declared.session.ShrinkWork.{ShrinkWork}
use Rattle.session_core.specs.declared.session.LowerWork.{LowerWork}
use Rattle.session_core.specs.declared.changed.Changed.{Changed}
use Rattle.session_core.specs.declared.turned.Turned.{Turned}
use Rattle.session_core.specs.declared.turned.Turned.TheVariants as turned
use Rattle.session_core.specs.declared.turned.Acted.{Acted}
use Rattle.session_core.specs.Changed.{of_blocks, in_table}
use Rattle.session_core.specs.Changes.{refused_as}
use Rattle.session_core.specs.ShrinkWorks.{shrink_of, lower_of}

-- ---- before an event

-- a shrink of the table of this name came past its tests and is at this, and nothing of the session's transaction is taken back
pub record IsShrinking (sh : Shape) (x : Span) (name : List ℕ) (compact : Bool) (w : ShrinkWork) : Type 0 where
  pub passed : FirstPass sh x (asked.Shrink name compact)
  pub extends : Extends x.begun x.ended
  pub stands : ShrinkStands sh x name (shrink_of w)
  pub whole : own_backed x.ended x.session ≡ false

-- it has stopped, and has yet to lower the table's marks
pub record IsLowering (sh : Shape) (x : Span) (name : List ℕ) (w : LowerWork) : Type 0 where
  pub passed : FirstPass sh x (asked.Shrink name false)
  pub extends : Extends x.begun x.ended
  pub stands : StoppedStands sh x name (lower_of w)
  pub whole : own_backed x.ended x.session ≡ false

-- ---- after one

-- the shrink doesn't begin or go on, or the store failed
abbrev pub not_shrunk : ShrinkFault → Option ℕ → Result Acted StoreFault
not_shrunk faults.MovementOff own = Ok (refused_as why.MovementOff own)
not_shrunk (faults.ShrinkBusy session) own = Ok (refused_as (why.ShrinkBusy session) own)
not_shrunk (faults.UndoFull holders) own = Ok (refused_as (why.UndoFull holders) own)
not_shrunk (faults.Store fault) own = Err fault

-- the statement goes on
abbrev pub goes_on : Doing → Option ℕ → Acted
goes_on d own = record { turned = turned.On d; own = own }

-- with no row moved yet
abbrev pub begun_shrink : Shrink → ShrinkWork
begun_shrink s = record { shrink = s; moved = 0 }

-- it begins, or a test refuses it
abbrev pub begun_if : Result (Unit {0}) Refusal → Shrink → Option ℕ → Acted
begun_if (Ok u) s own = goes_on (told.Shrinking (begun_shrink s)) own
begun_if (Err y) s own = refused_as y own

-- after a step, which stopped with so many records if it did
abbrev pub after_step : ShrinkStep → Shrink → ℕ → ℕ → Doing
after_step (steps.Moved blocks) s moved n = told.Shrinking (record { shrink = s; moved = suc moved })
after_step (steps.Skipped at txn) s moved n = told.Shrinking (record { shrink = s; moved = moved })
after_step (steps.Stopped stop) s moved n = told.Lowering (record { obj = s.obj; skips = s.skips; moved = moved; stopped = n; stop = stop })

-- the row blocks that it changed
abbrev pub blocks_after : ShrinkStep → ℕ → Changed → Changed
blocks_after (steps.Moved blocks) o old = in_table o (of_blocks blocks)
blocks_after (steps.Skipped at txn) o old = old
blocks_after (steps.Stopped stop) o old = old

-- how many rows it moved and how many slots it skipped
abbrev pub steps_made : ShrinkWork → ℕ
steps_made w = w.moved + length w.shrink.skips

-- where it goes on it made one step more
abbrev pub ComesFurther : ShrinkWork → Turned → Type 0
ComesFurther w (turned.On (told.Shrinking v)) = steps_made v ≡ suc (steps_made w)
ComesFurther w t = Unit {0}

-- the shrink only compacts, and is over as it stops
abbrev pub told_compacted : LowerWork → List ℕ → Option ℕ → Acted
told_compacted w name own = record { turned = turned.Over (outcome.Compacted name w.moved (length w.skips) w.stop) (kept.Stopped w.skips w.stopped); own = own }

-- it also lowered the table's marks, and is over
abbrev pub told_shrunk : LowerWork → Lowered → List ℕ → Option ℕ → Acted
told_shrunk w l name own = record { turned = turned.Over (outcome.Shrunk name w.moved (length w.skips) w.stop (length l.released) l.high) (kept.Stopped w.skips w.stopped); own = own }

-- what a shrink that only compacts is at where it stopped
abbrev pub step_told : Doing → Bool → List ℕ → Option ℕ → Acted
step_told (told.Lowering w) true name own = told_compacted w name own
step_told d compact name own = goes_on d own
