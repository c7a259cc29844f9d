-- The bests that a Lower states: what it leaves has the bests that it had.
use Rattle.std.proofs.Common.{◌≡◌, ℕ, suc, ◌*◌, max, cond, eqb, List, [], ◌∷◌, take, refl, ◌∙◌, ap, ap₂, eq-eqb}
use Rattle.seg_words.proofs.Lemmas.{cond-true}
use Rattle.seg_words.specs.Types.{Shape, EXTENTS_OF_L2}
use Rattle.redo_model.specs.Records.{Record, Lower, LowerRecord}
use Rattle.redo_model.specs.Model.{Extent, extents_of, extent_data, group_start, good_code, code_of, best_of, best_in_group, best_in_l2, all_bests}
use Rattle.lower_laws.specs.Drafts.{bests_of}

same_best : (sh : Shape) (R : List Record) (l : LowerRecord) (bs : List ℕ) → best_of sh (Lower l ∷ R) bs ≡ best_of sh R bs
same_best sh R l [] = refl
same_best sh R l (b ∷ bs) = ap (λ (n : ℕ). max (good_code (code_of sh R b)) n) (same_best sh R l bs)

same_group : (sh : Shape) (R : List Record) (l : LowerRecord) (start index : ℕ) (es : List Extent) → best_in_group sh (Lower l ∷ R) start index es ≡ best_in_group sh R start index es
same_group sh R l start index [] = refl
same_group sh R l start index (e ∷ es) = ap₂ (λ (x y : ℕ). max (cond (eqb (group_start index) start) x 0) y) (same_best sh R l (extent_data sh index e.number)) (same_group sh R l start (suc index) es)

-- of a group of those that are kept
pub best_after : (sh : Shape) (R : List Record) (l : LowerRecord) (start : ℕ) → best_in_l2 sh (Lower l ∷ R) l.obj start ≡ best_in_group sh R start 0 (take l.kept (extents_of R l.obj))
best_after sh R l start =
    let kept : extents_of (Lower l ∷ R) l.obj ≡ take l.kept (extents_of R l.obj) = cond-true _ _ _ (eq-eqb l.obj l.obj refl) in
    same_group sh R l start 0 (extents_of (Lower l ∷ R) l.obj) ∙ ap (λ (es : List Extent). best_in_group sh R start 0 es) kept

three : (a b c x y z : ℕ) → a ≡ x → b ≡ y → c ≡ z → a ∷ b ∷ c ∷ [] ≡ x ∷ y ∷ z ∷ []
three a b c x y z p q r = ap (λ (n : ℕ). n ∷ b ∷ c ∷ []) p ∙ ap (λ (n : ℕ). x ∷ n ∷ c ∷ []) q ∙ ap (λ (n : ℕ). x ∷ y ∷ n ∷ []) r

pub bests_after : (sh : Shape) (R : List Record) (l : LowerRecord) → all_bests sh (Lower l ∷ R) l.obj ≡ bests_of sh R (take l.kept (extents_of R l.obj))
bests_after sh R l = three _ _ _ _ _ _ (best_after sh R l 0) (best_after sh R l EXTENTS_OF_L2) (best_after sh R l (2 * EXTENTS_OF_L2))
