-- What a Lower leaves.
use Rattle.std.proofs.Common.{◌≡◌, ℕ, ◌+◌, List, ◌∷◌, ◌++◌, length, take, drop, refl, sym, ◌∙◌, ap, subst, Contains, eq-eqb, ne_eqb}
use Rattle.seg_words.proofs.Lemmas.{cond-true, cond-false}
use Rattle.seg_words.specs.Types.{Shape}
use Rattle.redo_model.specs.Records.{Record, Lower, LowerRecord}
use Rattle.redo_model.specs.Model.{extents_of, data_of, data_blocks, Marks, marks, under_high}
use Rattle.redo_laws.proofs.space.Places.{front_of}
use Rattle.shrink_laws.specs.Lowered.{OtherLeft, LowersLeaveTheRest}

other_left : (sh : Shape) (R : List Record) (l : LowerRecord) (o : ℕ) → (l.obj ≡ o → ⊥) → OtherLeft sh R l o
other_left sh R l o ne =
    let off = ne_eqb l.obj o ne in
    let extents : extents_of (Lower l ∷ R) o ≡ extents_of R o = cond-false _ _ _ off in
    let blocks : data_blocks sh (Lower l ∷ R) o ≡ data_blocks sh R o = ap (data_of sh 0) extents in
    let same : marks (Lower l ∷ R) o ≡ marks R o = cond-false _ _ _ off in
    let under : under_high sh (Lower l ∷ R) o ≡ under_high sh R o = ap (λ (m : Marks). take m.high (data_blocks sh (Lower l ∷ R) o)) same ∙ ap (take (marks R o).high) blocks in
    record {
      extents = extents;
      blocks = blocks;
      marks = same;
      row_blocks = λ b h. record { here = subst (λ xs. Contains xs b) (sym under) h.here; formatted = h.formatted };
    }

pub lowers_leave_the_rest : LowersLeaveTheRest
lowers_leave_the_rest sh R l =
    let es = extents_of R l.obj in
    let kept : extents_of (Lower l ∷ R) l.obj ≡ take l.kept es = cond-true _ _ _ (eq-eqb l.obj l.obj refl) in
    record {
      kept = kept;
      far = data_of sh (0 + length (take l.kept es)) (drop l.kept es);
      front = front_of sh l.kept es ∙ ap (λ xs. data_of sh 0 xs ++ data_of sh (0 + length (take l.kept es)) (drop l.kept es)) (sym kept);
      others = λ o ne. other_left sh R l o ne;
      blocks = λ b. record { value = refl; image = λ k. refl; slots = refl; entry = λ i. refl; entries = refl };
      formatted = λ b. refl;
      classes = λ b. refl;
    }
