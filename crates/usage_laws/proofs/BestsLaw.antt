-- What the pages of bitmaps tell of a Class.
use Rattle.std.proofs.Common.{◌≡◌, ℕ, ◌+◌, ◌-◌, ◌%◌, true, not, eqb, List, slice_index, slice_set, Option, Some, sym, ◌∙◌, ap, subst, arith}
use Rattle.seg_words.proofs.Lemmas.{cond-true}
use Rattle.seg_words.specs.Types.{Shape, first_block, class_code, is_shape, EXTENTS_OF_L2}
use Rattle.bitmap_block.specs.Codes.{best_of}
use Rattle.bitmap_block.specs.Pages.{ExtentMap}
use Rattle.redo_model.specs.Records.{Record}
use Rattle.redo_model.specs.Model.{Extent, extents_of, extent_data, extent_at, index_of, data_blocks, high_mark, is_formatted, kept_class, code_of, IsTable, IsRowBlock, AreAllowed}
use Rattle.redo_laws.specs.Among.{is_in}
use Rattle.redo_laws.proofs.numbers.Bounds.{limits}
use Rattle.redo_laws.proofs.space.Places.{in_contains, in_take, data_in_extent}
use Rattle.mark_laws.proofs.FormatBests.{stands}
use Rattle.page_says.specs.Levels.{told_code, FirstSays}
use Rattle.page_says.specs.LevelBests.{ClassBests}
use Rattle.page_says.proofs.BestsRead.{class_bests_are_read}
use Rattle.usage_laws.specs.Drafts.{ruled_class, drafted_class}
use Rattle.usage_laws.specs.Bests.{ClassesAreTold}
use Rattle.usage_laws.proofs.ClassLaw.{drafted_states}

some_extent : (e f : Extent) → ◌≡◌ {A = Option Extent} (Some e) (Some f) → e ≡ f
some_extent e f x = cc

-- a row block is a data block of the extent in which it stands
pub block_in_extent : (sh : Shape) (R : List Record) (o b : ℕ) (e : Extent) → AreAllowed sh R → IsTable R o → IsRowBlock sh R o b → extent_at (extents_of R o) (index_of sh (extents_of R o) b) ≡ Some e
    → is_in b (extent_data sh (index_of sh (extents_of R o) b) e.number) ≡ true
block_in_extent sh R o b e h t here at =
    let s = stands sh R o b h t (in_take b (high_mark R o) (data_blocks sh R o) (in_contains _ b here.here.0 here.here.1 here.here.2)) in
    let same : s.extent ≡ e = some_extent s.extent e (sym s.at ∙ ap (extent_at (extents_of R o)) (sym s.is) ∙ at) in
    subst (λ (x : Extent). is_in b (extent_data sh (index_of sh (extents_of R o) b) x.number) ≡ true) same (subst (λ i. is_in b (extent_data sh i s.extent.number) ≡ true) (sym s.is) s.has)

-- its code is that of its kept class
kept_told : (sh : Shape) (R : List Record) (i b : ℕ) (e : Extent) (m : ExtentMap) → is_shape sh ≡ true → is_formatted sh R b ≡ true → is_in b (extent_data sh i e.number) ≡ true → FirstSays sh R i e m → slice_index m.codes (b - first_block sh e.number) ≡ class_code (kept_class R b)
kept_told sh R i b e m s formatted has says =
    let r = data_in_extent sh i e.number b has in
    let from = r.0 in
    let to = r.1 in
    let most = (limits sh s).extent_to in
    let place : first_block sh e.number + (b - first_block sh e.number) ≡ b = omega (arith, from) in
    says.code (b - first_block sh e.number) (omega (arith, from, to, most))
    ∙ ap (told_code sh R i e.number) place
    ∙ cond-true (is_in b (extent_data sh i e.number)) (code_of sh R b) 0 has
    ∙ cond-true (is_formatted sh R b) (class_code (kept_class R b)) 0 formatted

pub classes_are_told : ClassesAreTold
classes_are_told sh R o b e first second s h t here at says covers =
    let i : ℕ = index_of sh (extents_of R o) b in
    let has = block_in_extent sh R o b e h t here at in
    let kept = kept_told sh R i b e first s here.formatted has says in
    let states = drafted_states sh R o b in
    let read : ClassBests sh R o i e (drafted_class sh R o b) first second = class_bests_are_read sh R o i e (drafted_class sh R o b) first second s h at has here.formatted says covers in
    record {
      kept = kept;
      calls = ap (λ n. not (eqb (class_code (ruled_class R o b)) n)) kept;
      l1 = sym (states.l1 ∙ read.l1);
      l2 = ap (λ n. best_of (slice_set second.codes (i % EXTENTS_OF_L2) n)) states.l1 ∙ sym (states.l2 ∙ read.l2);
    }
