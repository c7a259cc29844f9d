-- What a slot shows at the commits of an earlier list keeps its kind, its link and its undo address.
use Rattle.std.proofs.Common.{◌≡◌, ℕ, zero, suc, ◌≤◌, Bool, true, false, cond, ◌||◌, eqb, List, [], ◌∷◌, Option, Some, None, refl, sym, ◌∙◌, ap, subst, arith, le_trans, eqb-true, ne_eqb, true≢false, le-ltb}
use Rattle.seg_words.proofs.Lemmas.{and_right, lt-leb}
use Rattle.seg_words.specs.Types.{Shape, Slot, UndoAddr, Writer, By, At, as_told, number_of_writer, clean_slot}
use Rattle.redo_model.specs.Records.{Record, Commit}
use Rattle.redo_model.specs.Model.{Step, Effect, effect_of, commit_count, is_active, is_by, standing, newest_of, restored, placed_in, changed_image, image, Made, made_by, without, changed_makers, makers, first_counted, image_at, AreAllowed, is_committed_by, counts}
use Rattle.redo_model.specs.Effects.{Still, Formats, Adds, TakesBack, Cleans}
use Rattle.redo_laws.specs.Stays.{IsNotBy, Later, not_later, one_later, IsQuiet}
use Rattle.redo_laws.proofs.numbers.Known.{known}
use Rattle.redo_laws.proofs.steps.OnTop.{OnTop}
use Rattle.redo_laws.proofs.steps.Facts.{StepFits, EffectFits}
use Rattle.redo_laws.proofs.steps.Held.{own_newest}
use Rattle.redo_laws.proofs.spread.Spread.{good}
use Rattle.redo_laws.proofs.spread.Stays.{MayStay, same_counted, writes_stay, restores_stay}
use Rattle.redo_laws.proofs.spread.StaysLaw.{later_commits, counts_stay, active_off, step_off, back_by, by_off}
use Rattle.redo_laws.proofs.spread.Fitting.{Whole}
use Rattle.redo_laws.proofs.spread.Whole.{whole}

-- images that differ by a clean alone

pub record IsLike (i j : Slot) : Type 0 where
  pub kind : i.kind ≡ j.kind
  pub link : i.link ≡ j.link
  pub undo : i.undo ≡ j.undo

like_same : (i j : Slot) → i ≡ j → IsLike i j
like_same i j e = record { kind = ap (λ (x : Slot). x.kind) e; link = ap (λ (x : Slot). x.link) e; undo = ap (λ (x : Slot). x.undo) e }

like_trans : (i j k : Slot) → IsLike i j → IsLike j k → IsLike i k
like_trans i j k x y = record { kind = x.kind ∙ y.kind; link = x.link ∙ y.link; undo = x.undo ∙ y.undo }

told_like : (i : Slot) (n : Option ℕ) → IsLike (as_told i n) i
told_like i None = record { kind = refl; link = refl; undo = refl }
told_like i (Some zero) = record { kind = refl; link = refl; undo = refl }
told_like i (Some (suc n)) = record { kind = refl; link = refl; undo = refl }

clean_like : (cs : List (ℕ × ℕ)) (i : Slot) → IsLike (clean_slot cs i) i
clean_like cs i = told_like i (number_of_writer cs i.writer)

like_first : (c : Writer → UndoAddr → Bool) (i j : Slot) (ms : List Made) → IsLike i j → IsLike (first_counted c i ms) (first_counted c j ms)
like_first c i j [] h = h
like_first c i j (m ∷ ms) h = elim (c m.by m.undo) as (λ v. IsLike (cond v i (first_counted c m.old ms)) (cond v j (first_counted c m.old ms))) [ true ↦ h | false ↦ like_same (first_counted c m.old ms) (first_counted c m.old ms) refl ]

-- by an effect that doesn't count

effect_like : (R : List Record) (c : Writer → UndoAddr → Bool) (b k : ℕ) (ef : Effect) → MayStay R c b k ef → IsLike (first_counted c (changed_image ef b k (image R b k)) (changed_makers ef b k (makers R b k))) (first_counted c (image R b k) (makers R b k))
effect_like R c b k Still h = like_same _ _ refl
effect_like R c b k (Formats d) h = like_same _ _ (rw h refl)
effect_like R c b k (Adds st) h = like_same _ _ (writes_stay c R st 0 st.parts b k (makers R b k) h.0 h.1)
effect_like R c b k (TakesBack body) h =
    let ms = without body.undo (makers R b k) in
    let lies : makers R b k ≡ made_by h.0 0 h.0.parts b k ms = h.2 b k ∙ ap (λ a. made_by h.0 0 h.0.parts b k (without a (makers R b k))) (sym h.3) in
    like_same _ _ (ap (λ ps. first_counted c (placed_in (restored ps) b k (image R b k)) ms) h.4 ∙ restores_stay c (image R b k) h.0 0 h.0.parts b k ms h.1 ∙ ap (first_counted c (image R b k)) (sym lies))
effect_like R c b k (Cleans d cs) h = elim (eqb d b) as (λ v. IsLike (first_counted c (cond v (clean_slot cs (image R b k)) (image R b k)) (makers R b k)) (first_counted c (image R b k) (makers R b k))) [
  | true ↦ like_first c (clean_slot cs (image R b k)) (image R b k) (makers R b k) (clean_like cs (image R b k))
  | false ↦ like_same (first_counted c (image R b k) (makers R b k)) (first_counted c (image R b k) (makers R b k)) refl
]

may_stay : (sh : Shape) (R : List Record) (ef : Effect) (b k s t : ℕ) → AreAllowed sh R → Whole sh R → EffectFits R ef → s ≤ commit_count R → IsQuiet t b ef → MayStay R (λ w a. counts R s t w) b k ef
may_stay sh R Still b k s t h w f l q = tt
may_stay sh R (Formats d) b k s t h w f l q = ne_eqb d b (λ e. q.1 (ap Formats e))
may_stay sh R (Adds st) b k s t h w f l q = (step_off sh R st s t h l f q.0, f.old)
may_stay sh R (TakesBack y) b k s t h w f l q =
    let o = own_newest (standing R) y.txn f.step f.newest in
    let whole' : OnTop (f.step ∷ o.0) (makers R) = subst (λ us. OnTop us (makers R)) o.1 ((good sh R w.fit).held.top y.txn f.active) in
    (f.step, by_off (counts R s t) f.step.by y.txn (back_by (standing R) y.txn f.step f.newest) (active_off sh R s t y.txn h f.active q.0), whole'.0, f.undo, f.restores)
may_stay sh R (Cleans d cs) b k s t h w f l q = tt

-- as the list grows

one_like : (sh : Shape) (R : List Record) (r : Record) (b k s t : ℕ) → AreAllowed sh (r ∷ R) → s ≤ commit_count R → IsQuiet t b (effect_of r) → IsLike (image_at (r ∷ R) b k s t) (image_at R b k s t)
one_like sh R r b k s t h l q =
    let w = whole sh (r ∷ R) h in
    like_trans (image_at (r ∷ R) b k s t) (first_counted (λ v a. counts R s t v) (image (r ∷ R) b k) (makers (r ∷ R) b k)) (image_at R b k s t)
    (like_same _ _ (same_counted (λ v a. counts (r ∷ R) s t v) (λ v a. counts R s t v) (image (r ∷ R) b k) (makers (r ∷ R) b k) (λ v a. counts_stay R r s t l v)))
    (effect_like R (λ v a. counts R s t v) b k (effect_of r) (may_stay sh R (effect_of r) b k s t h.0 (whole sh R h.0) w.fit.1 l q))

pub images_stay : (sh : Shape) (b k s t : ℕ) (Q R : List Record) → AreAllowed sh R → s ≤ commit_count Q → Later (IsQuiet t b) Q R → IsLike (image_at R b k s t) (image_at Q b k s t)
images_stay sh b k s t Q R h l not_later = like_same (image_at Q b k s t) (image_at Q b k s t) refl
images_stay sh b k s t Q R h l (one_later {R = S} r x q) =
    like_trans (image_at (r ∷ S) b k s t) (image_at S b k s t) (image_at Q b k s t) (one_like sh S r b k s t h (le_trans l (later_commits (IsQuiet t b) Q S x)) q) (images_stay sh b k s t Q S h.0 l x)
