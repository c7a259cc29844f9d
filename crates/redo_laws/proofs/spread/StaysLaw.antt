-- What a block gives, and what a transaction sees, stays.
use Rattle.std.proofs.Common.{◌≡◌, ℕ, suc, ◌≤◌, Bool, true, false, cond, not, ◌&&◌, ◌||◌, eqb, List, [], ◌∷◌, Option, Some, None, refl, sym, ◌∙◌, ap, subst, arith, le_trans, le_refl, eqb-true, ne_eqb, true≢false, le-ltb}
use Rattle.seg_words.proofs.Lemmas.{cond_both, cond-false, and_left, and_right, lt-leb}
use Rattle.seg_words.specs.Types.{Shape, UndoAddr, Writer, By, At}
use Rattle.redo_model.specs.Records.{Record, Commit}
use Rattle.redo_model.specs.Model.{Step, Effect, effect_of, commit_count, is_commit, is_active, is_addr, is_by, without_step, standing_steps, standing, newest_of, outcome, view, image, makers, row_in, AreAllowed, is_committed_by, changed, table_at, counts, row_at}
use Rattle.redo_model.specs.Effects.{Still, Formats, Adds, TakesBack, Cleans}
use Rattle.redo_laws.proofs.lists.Every.{Every, every-map}
use Rattle.redo_laws.proofs.steps.OnTop.{OnTop}
use Rattle.redo_laws.proofs.steps.Facts.{StepFits, EffectFits}
use Rattle.redo_laws.specs.Stays.{IsNotBy, IsNotOf, Later, not_later, one_later, IsQuiet, BlocksStay, ViewsStay}
use Rattle.redo_laws.proofs.numbers.Known.{known}
use Rattle.redo_laws.proofs.steps.Held.{own_newest, Tops, tops}
use Rattle.redo_laws.proofs.spread.Spread.{good, tops_by}
use Rattle.redo_laws.proofs.spread.Stays.{MayStay, effect_stays, same_counted}
use Rattle.redo_laws.proofs.spread.Fitting.{Whole}
use Rattle.redo_laws.proofs.spread.Whole.{whole}

commits_more : (R : List Record) (r : Record) → commit_count R ≤ commit_count (r ∷ R)
commits_more R r = cond_both (is_commit r) (suc (commit_count R)) (commit_count R) (λ n. commit_count R ≤ n) (λ y. omega arith) (λ f. le_refl (commit_count R))

pub later_commits : (P : Effect → Type 0) (Q R : List Record) → Later P Q R → commit_count Q ≤ commit_count R
later_commits P Q R not_later = le_refl (commit_count Q)
later_commits P Q R (one_later {R = S} r h f) = le_trans (later_commits P Q S h) (commits_more S r)

-- whose writing counts stays
pub counts_stay : (R : List Record) (r : Record) (s t : ℕ) → s ≤ commit_count R → (w : Writer) → counts (r ∷ R) s t w ≡ counts R s t w
counts_stay R r s t l (At c) = refl
counts_stay R (Commit c) s t l (By u) = ap (λ v. eqb u t || (v || is_committed_by R s u)) (and_right (eqb c.txn u) _ (le-ltb (commit_count R) s l))
counts_stay R _ s t l (By u) = refl

not_by : (w : Writer) (t u : ℕ) → IsNotBy w t → w ≡ By u → u ≡ t → ⊥
not_by (By v) t u f e g = f ((let x : v ≡ u = cc in x) ∙ g)
not_by (At c) t u f e g = absurd (let x : At c ≡ By u = e in cc)

-- an active transaction other than t doesn't count
pub active_off : (sh : Shape) (R : List Record) (s t u : ℕ) → AreAllowed sh R → is_active R u ≡ true → (u ≡ t → ⊥) → counts R s t (By u) ≡ false
active_off sh R s t u h on ne = both_off (eqb u t) (is_committed_by R s u) (ne_eqb u t ne) ((known sh R s u h).open' on)
  where
    both_off : (x y : Bool) → x ≡ false → y ≡ false → (x || y) ≡ false
    both_off x y p q = rw (p, q) refl

pub step_off : (sh : Shape) (R : List Record) (st : Step) (s t : ℕ) → AreAllowed sh R → s ≤ commit_count R → StepFits R st → IsNotBy st.by t → counts R s t st.by ≡ false
step_off sh R st s t h l f n = go st.by refl
  where
    go : (w : Writer) → st.by ≡ w → counts R s t w ≡ false
    go (By u) e = active_off sh R s t u h (f.live u e) (λ g. not_by st.by t u n e g)
    go (At m) e = lt-leb m s (let k = (f.kept m e).number in omega (arith, k))

pub back_by : (ss : List Step) (u : ℕ) (st : Step) → newest_of ss u ≡ Some st → is_by st.by u ≡ true
back_by [] u st h = absurd (let x : ◌≡◌ {A = Option Step} None (Some st) = h in cc)
back_by (x ∷ ss) u st h =
    (elim (is_by x.by u) as (λ v. is_by x.by u ≡ v → cond v (Some x) (newest_of ss u) ≡ Some st → is_by st.by u ≡ true) [
      | true ↦ λ e f. let same : x ≡ st = cc in subst (λ (z : Step). is_by z.by u ≡ true) same e
      | false ↦ λ e f. back_by ss u st f
    ]) refl h

pub by_off : (c : Writer → Bool) (w : Writer) (u : ℕ) → is_by w u ≡ true → c (By u) ≡ false → c w ≡ false
by_off c (By v) u e f = ap (λ x. c (By x)) (eqb-true v u e) ∙ f
by_off c (At m) u e f = absurd (true≢false (sym e))

may_stay : (sh : Shape) (R : List Record) (ef : Effect) (b k s t : ℕ) → AreAllowed sh R → Whole sh R → EffectFits R ef → s ≤ commit_count R → IsNotOf ef t → (ef ≡ Formats b → ⊥) → MayStay R (λ w a. counts R s t w) b k ef
may_stay sh R Still b k s t h w f l n g = tt
may_stay sh R (Formats d) b k s t h w f l n g = ne_eqb d b (λ e. g (ap Formats e))
may_stay sh R (Adds st) b k s t h w f l n g = (step_off sh R st s t h l f n, f.old)
may_stay sh R (TakesBack y) b k s t h w f l n g =
    let o = own_newest (standing R) y.txn f.step f.newest in
    let whole' : OnTop (f.step ∷ o.0) (makers R) = subst (λ us. OnTop us (makers R)) o.1 ((good sh R w.fit).held.top y.txn f.active) in
    (f.step, by_off (counts R s t) f.step.by y.txn (back_by (standing R) y.txn f.step f.newest) (active_off sh R s t y.txn h f.active n), whole'.0, f.undo, f.restores)
may_stay sh R (Cleans d cs) b k s t h w f l n g = tt

one_stays : (sh : Shape) (R : List Record) (r : Record) (b k s t : ℕ) → AreAllowed sh (r ∷ R) → s ≤ commit_count R → IsNotOf (effect_of r) t → (effect_of r ≡ Formats b → ⊥) → row_at (r ∷ R) b k s t ≡ row_at R b k s t
one_stays sh R r b k s t h l n g =
    let w = whole sh (r ∷ R) h in
    ap row_in (same_counted (λ v a. counts (r ∷ R) s t v) (λ v a. counts R s t v) (image (r ∷ R) b k) (makers (r ∷ R) b k) (λ v a. counts_stay R r s t l v))
    ∙ effect_stays R (λ v a. counts R s t v) b k (effect_of r) (may_stay sh R (effect_of r) b k s t h.0 (whole sh R h.0) w.fit.1 l n g)

pub later_allowed : (sh : Shape) (P : Effect → Type 0) (Q R : List Record) → Later P Q R → AreAllowed sh R → AreAllowed sh Q
later_allowed sh P Q R not_later h = h
later_allowed sh P Q R (one_later {R = S} r x f) h = later_allowed sh P Q S x h.0

blocks_go : (sh : Shape) (b k s t : ℕ) (Q R : List Record) → AreAllowed sh R → s ≤ commit_count Q → Later (IsQuiet t b) Q R → row_at R b k s t ≡ row_at Q b k s t
blocks_go sh b k s t Q R h l not_later = refl
blocks_go sh b k s t Q R h l (one_later {R = S} r x f) =
    one_stays sh S r b k s t h (le_trans l (later_commits (IsQuiet t b) Q S x)) f.0 f.1 ∙ blocks_go sh b k s t Q S h.0 l x

pub blocks_stay : BlocksStay
blocks_stay sh Q R b k s t h l x = blocks_go sh b k s t Q R h l x

-- views

table_stays : (R : List Record) (r : Record) (o s n : ℕ) → s ≤ commit_count R → table_at (r ∷ R) o s n ≡ table_at R o s n
table_stays R (Commit c) o s n l = cond-false _ _ _ (le-ltb (commit_count R) s l)
table_stays R _ o s n l = refl

changed_without : (a : UndoAddr) (ss : List Step) (o t n : ℕ) (old : Option (List ℕ)) → Every (λ (x : Step). is_addr x.undo a ≡ true → is_by x.by t ≡ false) ss → changed (without_step a ss) o t n old ≡ changed ss o t n old
changed_without a [] o t n old h = refl
changed_without a (x ∷ ss) o t n old h =
    (elim (is_addr x.undo a) as (λ v. is_addr x.undo a ≡ v → changed (cond (not v) (x ∷ without_step a ss) (without_step a ss)) o t n old ≡ changed (x ∷ ss) o t n old) [
      | true ↦ λ e. changed_without a ss o t n old h.1 ∙ sym (cond-false _ _ _ (and_left (is_by x.by t) (eqb x.obj o && eqb x.row n) (h.0 e)))
      | false ↦ λ e. ap (cond (is_by x.by t && (eqb x.obj o && eqb x.row n)) (outcome x)) (changed_without a ss o t n old h.1)
    ]) refl

not_is_by : (w : Writer) (t : ℕ) → IsNotBy w t → is_by w t ≡ false
not_is_by (By u) t f = ne_eqb u t f
not_is_by (At c) t f = refl

other_by : (w : Writer) (v t : ℕ) → (v ≡ t → ⊥) → is_by w v ≡ true → is_by w t ≡ false
other_by (By u) v t ne e = ne_eqb u t (λ f. ne (sym (eqb-true u v e) ∙ f))
other_by (At c) v t ne e = refl

view_effect : (sh : Shape) (R : List Record) (ef : Effect) (o t n : ℕ) (old : Option (List ℕ)) → Whole sh R → EffectFits R ef → IsNotOf ef t → changed (standing_steps ef (standing R)) o t n old ≡ changed (standing R) o t n old
view_effect sh R Still o t n old w f g = refl
view_effect sh R (Formats d) o t n old w f g = refl
view_effect sh R (Adds st) o t n old w f g = cond-false _ _ _ (and_left (is_by st.by t) (eqb st.obj o && eqb st.row n) (not_is_by st.by t g))
view_effect sh R (TakesBack k) o t n old w f g =
    changed_without k.undo (standing R) o t n old (every-map _ _ (standing R) (λ x by same. other_by x.by k.txn t g (by same))
    (tops_by k.undo k.txn (standing R) (subst (λ x. Tops x k.txn (standing R)) (sym f.undo) (tops (standing R) k.txn f.step (good sh R w.fit).held.distinct f.newest))))
view_effect sh R (Cleans d cs) o t n old w f g = refl

one_view : (sh : Shape) (R : List Record) (r : Record) (o s t n : ℕ) → AreAllowed sh (r ∷ R) → s ≤ commit_count R → IsNotOf (effect_of r) t → view (r ∷ R) o s t n ≡ view R o s t n
one_view sh R r o s t n h l g =
    ap (changed (standing (r ∷ R)) o t n) (table_stays R r o s n l)
    ∙ view_effect sh R (effect_of r) o t n (table_at R o s n) (whole sh R h.0) (whole sh (r ∷ R) h).fit.1 g

views_go : (sh : Shape) (o s t n : ℕ) (Q R : List Record) → AreAllowed sh R → s ≤ commit_count Q → Later (λ e. IsNotOf e t) Q R → view R o s t n ≡ view Q o s t n
views_go sh o s t n Q R h l not_later = refl
views_go sh o s t n Q R h l (one_later {R = S} r x f) =
    one_view sh S r o s t n h (le_trans l (later_commits (λ e. IsNotOf e t) Q S x)) f ∙ views_go sh o s t n Q S h.0 l x

pub views_stay : ViewsStay
views_stay sh Q R o s t n h l x = views_go sh o s t n Q R h l x
