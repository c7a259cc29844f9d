-- What a step of a shrink answers, and what it leaves of the list and of the shrink.
use Rattle.std.specs.Prelude.{◌≡◌, ℕ, ◌<◌, List, ◌∷◌, length, Option, Some, None, Result, Ok, Err}
use Rattle.seg_words.specs.Types.{Shape}
use Rattle.disk_model.specs.Crash.{Meaning}
use Rattle.redo_model.specs.Records.{Record}
use Rattle.redo_model.specs.Model.{HasMovement, IsTable, data_blocks, image}
use Rattle.change_laws.specs.Types.{Fill, Full, fills_size, spot_for}
use Rattle.row_change.specs.Adding.{Stands}
use Rattle.history_text.specs.declared.outcome.Stop.TheVariants as stops
use Rattle.store_core.specs.Store.{Held}
use Rattle.store_core.specs.Causes.{IsSoundFault}
use Rattle.store_core.specs.declared.fault.StoreFault.{StoreFault}
use Rattle.shrink_laws.specs.declared.skip.Skip.{Skip}
use Rattle.shrink_laws.specs.Cursor.{skip_of}
use Rattle.shrink_move.specs.declared.come.Come.{Come}
use Rattle.shrink_move.specs.declared.fault.ShrinkFault.{ShrinkFault}
use Rattle.shrink_move.specs.declared.fault.ShrinkFault.TheVariants as faults
use Rattle.shrink_move.specs.declared.next.Next.{Next}
use Rattle.shrink_move.specs.declared.next.Next.TheVariants.{Bottom, Skips, NoFit, ToBody, ToBlock}
use Rattle.shrink_move.specs.declared.shrink.Shrink.{Shrink}
use Rattle.shrink_move.specs.declared.stepping.ShrinkStep.{ShrinkStep}
use Rattle.shrink_move.specs.declared.stepping.ShrinkStep.TheVariants.{Moved, Skipped, Stopped}
use Rattle.shrink_move.specs.Drafting.{blocks_of}
use Rattle.shrink_move.specs.MoveLaws.{block_fills, body_fills}
use Rattle.shrink_move.specs.Moves.{list_moved}
use Rattle.shrink_move.specs.Nexts.{NextIs}

-- ---- one move

-- row n of table o is moved by these fills: the list with its Move, after a Reuse where its undo asks for one, is next
pub record HasMoved {D : Type 0} (meaning : Meaning D) (sh : Shape) (R : List Record) (o n : ℕ) (gs : List Fill) (old new : Held D) (blocks : List ℕ) : Type 0 where
  pub next : List Record
  pub list_is : list_moved sh R o n gs ≡ Some next
  pub stands : Stands meaning R next old new
  pub blocks_are : blocks ≡ blocks_of gs

-- undo is full for it, and nothing is added
pub record IsSpent {D : Type 0} (meaning : Meaning D) (sh : Shape) (R : List Record) (gs : List Fill) (old new : Held D) (holders : List (ℕ × ℕ)) : Type 0 where
  pub full : spot_for sh R (fills_size R gs) ≡ Full holders
  pub stands : Stands meaning R R old new

-- the store failed or memory is wanting, and nothing is added
pub record HasFailed {D : Type 0} (meaning : Meaning D) (R : List Record) (old new : Held D) (fault : StoreFault) : Type 0 where
  pub sound : old.fault ≡ None → IsSoundFault fault
  pub stands : Stands meaning R R old new

abbrev pub IsMoved : {D : Type 0} → Meaning D → Shape → List Record → ℕ → ℕ → List Fill → Held D → Held D → Result (List ℕ) ShrinkFault → Type 0
IsMoved meaning sh R o n gs old new (Ok blocks) = HasMoved meaning sh R o n gs old new blocks
IsMoved meaning sh R o n gs old new (Err faults.MovementOff) = ⊥
IsMoved meaning sh R o n gs old new (Err (faults.ShrinkBusy session)) = ⊥
IsMoved meaning sh R o n gs old new (Err (faults.UndoFull holders)) = IsSpent meaning sh R gs old new holders
IsMoved meaning sh R o n gs old new (Err (faults.Store fault)) = HasFailed meaning R old new fault

-- ---- a step, by what the next one is

-- the row that it moves, by the slots that it empties and fills; none of a step that moves none
abbrev pub step_fills : List Record → Next → Option (List Fill)
step_fills R Bottom = None
step_fills R (Skips x t) = None
step_fills R (NoFit x) = None
step_fills R (ToBody x body) = Some (body_fills R x.at.dba x.at.slot body)
step_fills R (ToBlock x target) = Some (block_fills R x.at.dba x.at.slot target)

-- what it answers
abbrev pub step_answer : List Record → Next → ShrinkStep
step_answer R Bottom = Stopped stops.Bottom
step_answer R (Skips x t) = Skipped x.at t
step_answer R (NoFit x) = Stopped (stops.NoFit x.at)
step_answer R (ToBody x body) = Moved (blocks_of (body_fills R x.at.dba x.at.slot body))
step_answer R (ToBlock x target) = Moved (blocks_of (block_fills R x.at.dba x.at.slot target))

-- the list after it, none where undo is full for it
abbrev pub step_list : Shape → List Record → ℕ → Next → Option (List Record)
step_list sh R o Bottom = Some R
step_list sh R o (Skips x t) = Some R
step_list sh R o (NoFit x) = Some R
step_list sh R o (ToBody x body) = list_moved sh R o (image R x.at.dba x.at.slot).row (body_fills R x.at.dba x.at.slot body)
step_list sh R o (ToBlock x target) = list_moved sh R o (image R x.at.dba x.at.slot).row (block_fills R x.at.dba x.at.slot target)

-- the shrink after it: where it stops it stays as it was, else the cursor stands where it came to, and a slot that was skipped is
-- kept
abbrev pub shrink_with : ℕ → ℕ → List Skip → Shrink
shrink_with o place skips = record { obj = o; cursor = place; skips = skips }

abbrev pub with_cursor : Shrink → ℕ → Shrink
with_cursor s place = shrink_with s.obj place s.skips

abbrev pub with_skip : List Record → Shrink → Come → ℕ → Shrink
with_skip R s x t = shrink_with s.obj x.place (skip_of R x.at.dba x.at.slot t ∷ s.skips)

abbrev pub step_shrink : List Record → Shrink → Next → Shrink
step_shrink R s Bottom = s
step_shrink R s (Skips x t) = with_skip R s x t
step_shrink R s (NoFit x) = s
step_shrink R s (ToBody x body) = with_cursor s x.place
step_shrink R s (ToBlock x target) = with_cursor s x.place

-- ---- the answer

-- the step that is next was made
pub record HasStepped {D : Type 0} (meaning : Meaning D) (sh : Shape) (R : List Record) (old new : Held D) (before after : Shrink) (answer : ShrinkStep) : Type 0 where
  pub next : Next
  pub next_is : NextIs sh R before.obj before.skips before.cursor next
  pub answer_is : answer ≡ step_answer R next
  pub shrink_is : after ≡ step_shrink R before next
  pub list : List Record
  pub list_is : step_list sh R before.obj next ≡ Some list
  pub stands : Stands meaning R list old new

-- the step that is next moves a row for which undo is full: nothing is added, and the shrink is as it was
pub record IsRefused {D : Type 0} (meaning : Meaning D) (sh : Shape) (R : List Record) (old new : Held D) (before after : Shrink) (holders : List (ℕ × ℕ)) : Type 0 where
  pub next : Next
  pub next_is : NextIs sh R before.obj before.skips before.cursor next
  pub fills : List Fill
  pub fills_are : step_fills R next ≡ Some fills
  pub spent : IsSpent meaning sh R fills old new holders
  pub shrink_is : after ≡ before

-- nothing is added, and the shrink is as it was
pub record HasBroken {D : Type 0} (meaning : Meaning D) (R : List Record) (old new : Held D) (before after : Shrink) (fault : StoreFault) : Type 0 where
  pub failed : HasFailed meaning R old new fault
  pub shrink_is : after ≡ before

abbrev pub StepIs : {D : Type 0} → Meaning D → Shape → List Record → Held D → Held D → Shrink → Shrink → Result ShrinkStep ShrinkFault → Type 0
StepIs meaning sh R old new before after (Ok answer) = HasStepped meaning sh R old new before after answer
StepIs meaning sh R old new before after (Err faults.MovementOff) = ⊥
StepIs meaning sh R old new before after (Err (faults.ShrinkBusy session)) = ⊥
StepIs meaning sh R old new before after (Err (faults.UndoFull holders)) = IsRefused meaning sh R old new before after holders
StepIs meaning sh R old new before after (Err (faults.Store fault)) = HasBroken meaning R old new before after fault

-- the table is there with its row movement on, and the cursor stands at one of its positions
pub record MayStep (sh : Shape) (R : List Record) (s : Shrink) : Type 0 where
  pub table : IsTable R s.obj
  pub movement : HasMovement R s.obj
  pub there : s.cursor < length (data_blocks sh R s.obj)
