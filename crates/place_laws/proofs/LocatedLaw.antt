-- Where a search for a row ends.
use Rattle.std.proofs.Common.{◌≡◌, ℕ, zero, suc, ◌<◌, min, Bool, true, List, [], ◌∷◌, length, take, Option, Some, None, refl, sym, ◌∙◌, ap, subst, arith, inl, inr, true≢false, slice_get, slice_index_or, le_refl}
use Rattle.std.proofs.lemmas.Option.{slice_get_within, get_or_from_slice_get}
use Rattle.seg_words.proofs.Lemmas.{cond-false, cases_Bool}
use Rattle.seg_words.specs.Types.{Slot, Writer, UndoAddr}
use Rattle.redo_model.specs.Model.{commit_count, is_active, standing, holds_row, image, makers, counts, row_in, data_blocks, high_mark, number_or_zero, view}
use Rattle.redo_laws.specs.Among.{is_in}
use Rattle.redo_laws.proofs.allowed.Shapes.{Present, row_of_empty}
use Rattle.redo_laws.proofs.space.Places.{in_contains, segments, a_table, same_table}
use Rattle.redo_laws.proofs.spread.Spread.{good, head_settled}
use Rattle.redo_laws.proofs.spread.Views.{ready}
use Rattle.redo_laws.proofs.spread.Union.{closed_counts}
use Rattle.redo_laws.proofs.spread.SpreadLaw.{present_block}
use Rattle.redo_laws.proofs.spread.Whole.{whole}
use Rattle.change_laws.specs.Types.{WasFound, now_at}
use Rattle.change_laws.proofs.FindLaw.{rows_are_found_once}
use Rattle.place_laws.specs.Located.{SearchesEnd, GivenAreAtHome, LocatedAreFound}

-- blocks by position

record TakenAt (n : ℕ) (xs : List ℕ) (b k : ℕ) : Type 0 where
  at : slice_get xs k ≡ Some b
  below : k < min n (length xs)

taken_at : (n : ℕ) (xs : List ℕ) (b k : ℕ) → k < length (take n xs) → slice_index_or (take n xs) k b ≡ b → TakenAt n xs b k
taken_at zero xs b k l e = absurd (omega (arith, l))
taken_at (suc n) [] b k l e = absurd (omega (arith, l))
taken_at (suc n) (x ∷ xs) b zero l e = record { at = ap (λ y. Some y) e; below = omega arith }
taken_at (suc n) (x ∷ xs) b (suc k) l e =
    let t = taken_at n xs b k (omega (arith, l)) e in
    let m = t.below in
    record { at = t.at; below = omega (arith, m) }

pub in_at : (xs : List ℕ) (b i : ℕ) → slice_get xs i ≡ Some b → is_in b xs ≡ true
in_at xs b i e = let l = slice_get_within xs i b e in in_contains xs b i l (get_or_from_slice_get xs i b b e)

pub searches_end : SearchesEnd
searches_end sh R own o n end h on t none all =
    (elim (view R o (commit_count R) (number_or_zero own) n) as (λ v. view R o (commit_count R) (number_or_zero own) n ≡ v → v ≡ None) [
      | None ↦ λ e. refl
      | Some bytes ↦ λ e.
          let g = (rows_are_found_once sh R own o n h on t).given bytes e in
          let at = taken_at (high_mark R o) (data_blocks sh R o) g.block g.here.here.0 g.here.here.1 g.here.here.2 in
          let below = at.below in
          absurd (none g.here.here.0 g.block (omega (arith, below, all)) at.at g.slot bytes g.gives)
    ]) refl

holds_of : (i : Slot) (n : ℕ) (bytes : List ℕ) → row_in i ≡ Some (n, bytes) → holds_row i.kind ≡ true
holds_of i n bytes e = elim (cases_Bool (holds_row i.kind)) [
  | inl y ↦ y
  | inr f ↦ absurd (let z : ◌≡◌ {A = Option (ℕ × List ℕ)} None (Some (n, bytes)) = sym (cond-false _ _ _ f) ∙ e in cc)
]

-- A block of no table has only Empty slots, whose writers have ended: each is what is seen there.
pub given_are_at_home : GivenAreAtHome
given_are_at_home sh R own o n i p bytes h t at e =
    let s = segments sh R h in
    let w = whole sh R h in
    let c : Writer → UndoAddr → Bool = λ v a. counts R (commit_count R) (number_or_zero own) v in
    elim (w.homes p.dba) [
      | inl v ↦
          let same : v.obj ≡ o = same_table sh R v.obj o p.dba s v.here.0 (a_table sh R o s t) v.here.1 (in_at (data_blocks sh R o) p.dba i at) in
          present_block sh R o p.dba s (subst (λ z. Present sh R z p.dba) same v.here)
      | inr d ↦
          let seen : now_at R own p ≡ image R p.dba p.slot = head_settled c (is_active R) (standing R) (image R p.dba p.slot) (makers R p.dba p.slot) ((good sh R w.fit).held.stand p.dba p.slot) (closed_counts R (commit_count R) (number_or_zero own) (standing R) ((ready sh R w.fit).settled (commit_count R) (le_refl (commit_count R)))) (d.vacant p.slot).settled in
          absurd (true≢false (sym (holds_of (now_at R own p) n bytes e) ∙ ap (λ (x : Slot). holds_row x.kind) seen ∙ row_of_empty (image R p.dba p.slot).kind (d.vacant p.slot).empty))
    ]

pub located_are_found : LocatedAreFound
located_are_found sh R own o n p born undo start head h on t is =
    let once = rows_are_found_once sh R own o n h on t in
    record {
      found = subst (WasFound sh R own o n p born undo) (sym is.start_is) (once.kept p born undo is.seen.bytes is.here is.born_now is.seen.row is.seen.undo_is);
      viewed = once.seen p is.seen.bytes is.here is.seen.row;
      only = λ q x e. once.once q p x is.seen.bytes e is.seen.row;
    }
