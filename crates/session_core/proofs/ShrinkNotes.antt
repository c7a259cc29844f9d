-- The row blocks that an event of a shrink changes.
use Rattle.std.proofs.Common.{◌≡◌, ℕ, suc, ◌≤◌, Bool, false, eqb, ◌||◌, List, [], ◌∷◌, length, Option, Some, refl, sym, ◌∙◌, ap, subst, arith}
use Rattle.std.specs.Prelude.{Err}
use Rattle.seg_words.specs.Types.{Shape, UndoAddr}
use Rattle.disk_model.specs.Crash.{Meaning}
use Rattle.redo_record.specs.declared.record.Record.TheVariants as made
use Rattle.redo_model.specs.Records.{Record}
use Rattle.redo_model.specs.Model.{image, at_place}
use Rattle.change_laws.specs.Types.{Fill, Stand, Whole, Apart, Spot, Here, Next as Reused, Full, fills_size, free_place, spot_for, undo_start}
use Rattle.end_laws.specs.Types.{blocks_in}
use Rattle.history_laws.proofs.Owned.{none_some, same_some}
use Rattle.shrink_laws.specs.Stops.{row_image}
use Rattle.store_core.specs.Store.{Held, IsTrue}
use Rattle.shrink_move.specs.declared.fault.ShrinkFault.{ShrinkFault}
use Rattle.shrink_move.specs.declared.fault.ShrinkFault.TheVariants as faults
use Rattle.shrink_move.specs.declared.next.Next.{Next}
use Rattle.shrink_move.specs.declared.next.Next.TheVariants.{Bottom, Skips, NoFit, ToBody, ToBlock}
use Rattle.shrink_move.specs.declared.shrink.Shrink.{Shrink}
use Rattle.shrink_move.specs.declared.stepping.ShrinkStep.{ShrinkStep}
use Rattle.shrink_move.specs.Drafting.{blocks_of}
use Rattle.shrink_move.specs.Moves.{list_moved, move_of, moved_at, moved_parts, row_stand, to_block_fills}
use Rattle.shrink_move.specs.MoveLaws.{block_fills, body_fills}
use Rattle.shrink_move.specs.Stepping.{HasStepped, StepIs, step_answer, step_list, step_shrink}
use Rattle.session_core.specs.declared.changed.Changed.{Changed}
use Rattle.session_core.specs.Blocks.{is_among, changes_block, HasNoted}
use Rattle.session_core.specs.Changed.{in_table, of_blocks}
use Rattle.session_core.specs.Leaving.{is_filled, is_noted, no_blocks}
use Rattle.session_core.specs.ShrinkEvents.{blocks_after}
use Rattle.session_core.proofs.Blocks.{AddsBlocks, listed_noted, noted_as, noted_blocks, noted_same, or_false}

-- ---- a Move

parts_blocks : (R : List Record) (number : ℕ) (a : UndoAddr) (i : ℕ) (gs : List Fill) (b : ℕ) → is_among (blocks_in (moved_parts R number a i gs)) b ≡ is_filled gs b
parts_blocks R number a i [] b = refl
parts_blocks R number a i (g ∷ gs) b = ap (λ (v : Bool). eqb g.at.dba b || v) (parts_blocks R number a (suc i) gs b)

move_blocks : (R : List Record) (o n : ℕ) (a : UndoAddr) (gs : List Fill) (newer : List Record) (b : ℕ) → changes_block newer b ≡ false → changes_block (made.Move (move_of R o n a gs) ∷ newer) b ≡ is_filled gs b
move_blocks R o n a gs newer b h =
    ap (λ (v : Bool). is_among (blocks_in (move_of R o n a gs).parts) b || v) h ∙ (or_false (is_among (blocks_in (move_of R o n a gs).parts) b) ∙ parts_blocks R (move_of R o n a gs).number a 0 gs b)

moved_adds : (R list : List Record) (o n : ℕ) (gs : List Fill) (s : Spot) → moved_at R o n gs s ≡ Some list → AddsBlocks R list gs
moved_adds R list o n gs (Here a) e = record {
  newer = made.Move (move_of R o n a gs) ∷ [];
  is = sym (same_some (made.Move (move_of R o n a gs) ∷ R) list e);
  just = λ b. move_blocks R o n a gs [] b refl;
}
moved_adds R list o n gs (Reused q) e = record {
  newer = made.Move (move_of (made.Reuse q ∷ R) o n (undo_start q) gs) ∷ made.Reuse q ∷ [];
  is = sym (same_some (made.Move (move_of (made.Reuse q ∷ R) o n (undo_start q) gs) ∷ made.Reuse q ∷ R) list e);
  just = λ b. move_blocks (made.Reuse q ∷ R) o n (undo_start q) gs (made.Reuse q ∷ []) b refl;
}
moved_adds R list o n gs (Full hs) e = none_some list _ e

-- its blocks are at most three

fills_noted : (gs : List Fill) (b : ℕ) → is_among (blocks_of gs) b ≡ is_filled gs b
fills_noted [] b = refl
fills_noted (g ∷ gs) b = ap (λ (v : Bool). eqb g.at.dba b || v) (fills_noted gs b)

few_by : (R : List Record) (n : ℕ) (x : Stand) (target : ℕ) (bytes : List ℕ) → length (blocks_of (to_block_fills n x (free_place R target) bytes)) ≤ 3
few_by R n (Whole p) target bytes = omega arith
few_by R n (Apart head body) target bytes = omega arith

few_blocks : (R : List Record) (d k target : ℕ) → length (blocks_of (block_fills R d k target)) ≤ 3
few_blocks R d k target = few_by R (image R d k).row (row_stand (image R d k).kind (image R d k).link (at_place d k)) target (row_image R d k).bytes

moved_notes : {D : Type 0} (meaning : Meaning D) (sh : Shape) (R list : List Record) (o n : ℕ) (gs : List Fill) (b : Held D) → IsTrue meaning list b → list_moved sh R o n gs ≡ Some list → length (blocks_of gs) ≤ 3 → HasNoted meaning R b (in_table o (of_blocks (blocks_of gs)))
moved_notes meaning sh R list o n gs b t e few =
    noted_blocks meaning R list gs b (in_table o (of_blocks (blocks_of gs))) t (moved_adds R list o n gs (spot_for sh R (fills_size R gs)) e) (λ d. listed_noted (blocks_of gs) d few ∙ fills_noted gs d)

-- ---- a step, by what the next one is

kept_notes : {D : Type 0} (meaning : Meaning D) (R list : List Record) (b : Held D) → IsTrue meaning list b → ◌≡◌ {A = Option (List Record)} (Some R) (Some list) → HasNoted meaning R b no_blocks
kept_notes meaning R list b t e = noted_same meaning R b (subst (λ (L : List Record). IsTrue meaning L b) (sym (same_some R list e)) t)

step_notes : {D : Type 0} (meaning : Meaning D) (sh : Shape) (R list : List Record) (o : ℕ) (n : Next) (b : Held D) → IsTrue meaning list b → step_list sh R o n ≡ Some list → HasNoted meaning R b (blocks_after (step_answer R n) o no_blocks)
step_notes meaning sh R list o Bottom b t e = kept_notes meaning R list b t e
step_notes meaning sh R list o (Skips c u) b t e = kept_notes meaning R list b t e
step_notes meaning sh R list o (NoFit c) b t e = kept_notes meaning R list b t e
step_notes meaning sh R list o (ToBody c body) b t e = moved_notes meaning sh R list o (image R c.at.dba c.at.slot).row (body_fills R c.at.dba c.at.slot body) b t e (omega arith)
step_notes meaning sh R list o (ToBlock c target) b t e = moved_notes meaning sh R list o (image R c.at.dba c.at.slot).row (block_fills R c.at.dba c.at.slot target) b t e (few_blocks R c.at.dba c.at.slot target)

-- it is of the shrink's table
same_table : (R : List Record) (s : Shrink) (n : Next) → (step_shrink R s n).obj ≡ s.obj
same_table R s Bottom = refl
same_table R s (Skips c t) = refl
same_table R s (NoFit c) = refl
same_table R s (ToBody c body) = refl
same_table R s (ToBlock c target) = refl

pub stepped_notes : {D : Type 0} (meaning : Meaning D) (sh : Shape) (R : List Record) (old s : Shrink) (step : ShrinkStep) (a b : Held D) (before after : Changed) → after ≡ blocks_after step s.obj before → before ≡ no_blocks → HasStepped meaning sh R a b old s step → HasNoted meaning R b after
stepped_notes meaning sh R old s step a b before after is none h =
    let own = ap (λ (z : Shrink). z.obj) h.shrink_is ∙ same_table R old h.next in
    noted_as meaning R b after (blocks_after step old.obj no_blocks) (is ∙ (ap (λ (z : ℕ). blocks_after step z before) own ∙ ap (λ (z : Changed). blocks_after step old.obj z) none))
    (subst (λ (z : ShrinkStep). HasNoted meaning R b (blocks_after z old.obj no_blocks)) (sym h.answer_is) (step_notes meaning sh R h.list old.obj h.next b h.stands.list h.list_is))

-- none where it is refused or fails
pub unstepped_notes : {D : Type 0} (meaning : Meaning D) (sh : Shape) (R : List Record) (old s : Shrink) (f : ShrinkFault) (a b : Held D) → StepIs meaning sh R a b old s (Err f) → HasNoted meaning R b no_blocks
unstepped_notes meaning sh R old s faults.MovementOff a b h = absurd h
unstepped_notes meaning sh R old s (faults.ShrinkBusy v) a b h = absurd h
unstepped_notes meaning sh R old s (faults.UndoFull hs) a b h = noted_same meaning R b h.spent.stands.list
unstepped_notes meaning sh R old s (faults.Store g) a b h = noted_same meaning R b h.failed.stands.list
