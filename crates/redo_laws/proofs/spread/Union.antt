-- A view is the union of what the blocks give.
use Rattle.std.proofs.Common.{◌≡◌, ℕ, ◌≤◌, Bool, true, false, cond, ◌&&◌, ◌||◌, eqb, List, [], ◌∷◌, Option, Some, None, filter, refl, sym, ◌∙◌, ap, inl, inr, eqb-true, true≢false, eq-eqb}
use Rattle.seg_words.proofs.Lemmas.{eqb-false, cond-true, cond-false, cases_Bool, and_parts, and_from, and_left, and_right}
use Rattle.seg_words.specs.Types.{Shape, Writer, By, At}
use Rattle.redo_model.specs.Records.{Record}
use Rattle.redo_model.specs.Model.{Step, Effect, effect_of, commit_count, is_active, standing_steps, standing, newest_on, outcome, view, counts, row_at}
use Rattle.redo_model.specs.Effects.{Still, Formats, Adds, TakesBack, Cleans}
use Rattle.redo_laws.proofs.lists.Every.{Every, every-map, every-filter}
use Rattle.redo_laws.proofs.steps.Facts.{Counted, Found, located, Told, EffectFits, IsFit, IfSettled, SameCounts, IsClosed, newest_outcome}
use Rattle.redo_laws.proofs.spread.Spread.{good}
use Rattle.redo_laws.proofs.spread.Views.{Settled, ready, IsOpen, view_is_newest}

-- all steps on a row are of one table
abbrev pub RowObj : List Step → Type 0
RowObj [] = Unit {0}
RowObj (x ∷ ss) = Every (λ (s : Step). s.row ≡ x.row → s.obj ≡ x.obj) ss × RowObj ss

obj_over : (n o : ℕ) (ss : List Step) → RowObj ss → ((last : Step) → newest_on ss n ≡ Some last → last.obj ≡ o) → Every (λ (s : Step). s.row ≡ n → s.obj ≡ o) ss
obj_over n o [] lock h = tt
obj_over n o (x ∷ ss) lock h =
    (elim (eqb x.row n) as (λ v. eqb x.row n ≡ v → ((last : Step) → cond v (Some x) (newest_on ss n) ≡ Some last → last.obj ≡ o) → Every (λ (s : Step). s.row ≡ n → s.obj ≡ o) (x ∷ ss)) [
      | true ↦ λ e k. let q = k x refl in ((λ _. q), every-map _ _ ss (λ s f row. f (row ∙ sym (eqb-true x.row n e)) ∙ q) lock.0)
      | false ↦ λ e k. ((λ row. absurd (eqb-false x.row n e row)), obj_over n o ss lock.1 k)
    ]) refl h

obj_filter : (f : Step → Bool) (ss : List Step) → RowObj ss → RowObj (filter f ss)
obj_filter f [] h = tt
obj_filter f (s ∷ ss) h = elim (f s) as (λ v. RowObj (cond v (s ∷ filter f ss) (filter f ss))) [ true ↦ (every-filter _ f ss h.0, obj_filter f ss h.1) | false ↦ obj_filter f ss h.1 ]

pub record Rows (ss : List Step) : Type 0 where
  pub objs : RowObj ss
  pub told : Every Told ss

effect_rows : (R : List Record) (ef : Effect) → EffectFits R ef → Rows (standing R) → Rows (standing_steps ef (standing R))
effect_rows R Still f h = h
effect_rows R (Formats d) f h = h
effect_rows R (Adds st) f h = record { objs = (obj_over st.row st.obj (standing R) h.objs f.obj, h.objs); told = (f.told, h.told) }
effect_rows R (TakesBack body) f h = record { objs = obj_filter _ (standing R) h.objs; told = every-filter _ _ (standing R) h.told }
effect_rows R (Cleans d cs) f h = h

pub rows : (sh : Shape) (R : List Record) → IsFit sh R → Rows (standing R)
rows sh [] h = record { objs = tt; told = tt }
rows sh (r ∷ R) h = effect_rows R (effect_of r) h.1 (rows sh R h.0)

no_outcome : (c : Counted) (ss : List Step) (o n : ℕ) → Every (λ (s : Step). s.row ≡ n → eqb s.obj o ≡ false) ss → newest_outcome c ss o n ≡ None
no_outcome c [] o n h = refl
no_outcome c (s ∷ ss) o n h =
    elim (cases_Bool (eqb s.row n)) [
      | inl y ↦ let q = h.0 (eqb-true s.row n y) in simp (q, and_right) (no_outcome c ss o n h.1)
      | inr f ↦ simp (f, and_right) (no_outcome c ss o n h.1)
    ]

found_place : (c : Counted) (ss : List Step) (o n : ℕ) (bytes : List ℕ) → Rows ss → newest_outcome c ss o n ≡ Some bytes → (b : ℕ) × (k : ℕ) × (located c ss n ≡ Some (b, k, bytes))
found_place c [] o n bytes h e = absurd (let x : ◌≡◌ {A = Option (List ℕ)} None (Some bytes) = e in cc)
found_place c (s ∷ ss) o n bytes h e =
    let rest : Rows ss = record { objs = h.objs.1; told = h.told.1 } in
    elim (cases_Bool (c s.by s.undo && eqb s.row n)) [
      | inl y ↦
          let p = and_parts (c s.by s.undo) (eqb s.row n) y in
          elim (cases_Bool (eqb s.obj o)) [
            | inl q ↦
                let w = h.told.0.placed bytes (sym (cond-true _ _ _ (and_from (c s.by s.undo) _ p.0 (and_from (eqb s.obj o) _ q p.1))) ∙ e) in
                (w.0, w.1, cond-true _ _ _ y ∙ w.2)
            | inr q ↦
                let none = no_outcome c ss o n (every-map _ _ ss (λ x f row. ap (λ z. eqb z o) (f (row ∙ sym (eqb-true s.row n p.1))) ∙ q) h.objs.0) in
                let skip = cond-false _ (outcome s) (newest_outcome c ss o n) (and_right (c s.by s.undo) (eqb s.obj o && eqb s.row n) (and_left (eqb s.obj o) (eqb s.row n) q)) in
                absurd (let x : ◌≡◌ {A = Option (List ℕ)} None (Some bytes) = sym (skip ∙ none) ∙ e in cc)
          ]
      | inr f ↦
          let w = found_place c ss o n bytes rest (elim (cases_Bool (c s.by s.undo)) [
            | inl on ↦ let row : eqb s.row n ≡ false = sym (ap (λ v. v && eqb s.row n) on) ∙ f in simp (row, and_right) at e
            | inr off ↦ simp off at e
          ]) in
          (w.0, w.1, cond-false _ _ _ f ∙ w.2)
    ]

found_outcome : (c : Counted) (ss : List Step) (b k n : ℕ) (bytes : List ℕ) → Every Told ss → located c ss n ≡ Some (b, k, bytes) → (o : ℕ) × (newest_outcome c ss o n ≡ Some bytes)
found_outcome c [] b k n bytes h e = absurd (let x : ◌≡◌ {A = Option Found} None (Some (b, k, bytes)) = e in cc)
found_outcome c (s ∷ ss) b k n bytes h e =
    elim (cases_Bool (c s.by s.undo && eqb s.row n)) [
      | inl y ↦
          let p = and_parts (c s.by s.undo) (eqb s.row n) y in
          (s.obj, cond-true _ _ _ (and_from (c s.by s.undo) _ p.0 (and_from (eqb s.obj s.obj) _ (eq-eqb s.obj s.obj refl) p.1)) ∙ h.0.made b k bytes (sym (cond-true _ _ _ y) ∙ e))
      | inr f ↦
          let w = found_outcome c ss b k n bytes h.1 (sym (cond-false _ _ _ f) ∙ e) in
          (w.0, cond-false _ _ _ (off (c s.by s.undo) (eqb s.obj w.0) (eqb s.row n) f) ∙ w.1)
    ]
  where
    off : (x y z : Bool) → (x && z) ≡ false → (x && (y && z)) ≡ false
    off true true z h = h
    off true false z h = refl
    off false y z h = refl

-- at all commits, what isn't active counts
settled_counts : (R : List Record) (s t : ℕ) (w : Writer) → Settled R s w → IfSettled (is_active R) w (counts R s t w ≡ true)
settled_counts R s t (By u) h = λ off. elim h [ inl on ↦ absurd (true≢false (sym on ∙ off)) | inr in' ↦ simp in' (either (eqb u t)) ]
  where
    either : (x : Bool) → (x || true) ≡ true
    either true = refl
    either false = refl
settled_counts R s t (At m) h = h

pub closed_counts : (R : List Record) (s t : ℕ) (ss : List Step) → Every (λ (x : Step). Settled R s x.by) ss → IsClosed (λ w a. counts R s t w) (is_active R) ss
closed_counts R s t [] h = tt
closed_counts R s t (x ∷ ss) h = (settled_counts R s t x.by h.0, (λ on. same ss on), closed_counts R s t ss h.1)
  where
    same : (ss : List Step) → counts R s t x.by ≡ true → SameCounts (λ w a. counts R s t w) x.by ss
    same [] on = tt
    same (y ∷ ss) on = ((λ e. ap (counts R s t) e ∙ on), same ss on)

same_place : (b k b' k' : ℕ) (x y : List ℕ) (o : Option Found) → o ≡ Some (b, k, x) → o ≡ Some (b', k', y) → (b ≡ b') × (k ≡ k')
same_place b k b' k' x y o p q = let e : ◌≡◌ {A = Option Found} (Some (b, k, x)) (Some (b', k', y)) = sym p ∙ q in (ap first e, ap second e)
  where
    first : Option Found → ℕ
    first None = 0
    first (Some f) = f.0

    second : Option Found → ℕ
    second None = 0
    second (Some f) = f.1

-- at all commits, each row of a view stands in a slot, each row in a slot is in a view, and no row number stands in two
-- slots
pub record Union (R : List Record) (s t : ℕ) : Type 0 where
  pub shown : (o n : ℕ) (bytes : List ℕ) → view R o s t n ≡ Some bytes → (b : ℕ) × (k : ℕ) × (row_at R b k s t ≡ Some (n, bytes))
  pub viewed : (b k n : ℕ) (bytes : List ℕ) → row_at R b k s t ≡ Some (n, bytes) → (o : ℕ) × (view R o s t n ≡ Some bytes)
  pub once : (b k b' k' n : ℕ) (x y : List ℕ) → row_at R b k s t ≡ Some (n, x) → row_at R b' k' s t ≡ Some (n, y) → (b ≡ b') × (k ≡ k')

pub view_is_union : (sh : Shape) (R : List Record) (s t : ℕ) → IsFit sh R → commit_count R ≤ s → IsOpen R t → Union R s t
view_is_union sh R s t h l on =
    let c : Counted = λ w a. counts R s t w in
    let spread = (good sh R h).spread c (closed_counts R s t (standing R) ((ready sh R h).settled s l)) in
    let r = rows sh R h in
    record {
      shown = λ o n bytes e. let w = found_place c (standing R) o n bytes r (sym (view_is_newest sh R o s t n h l on) ∙ e) in (w.0, w.1, (spread w.0 w.1 n bytes).shown w.2);
      viewed = λ b k n bytes e. let w = found_outcome c (standing R) b k n bytes r.told ((spread b k n bytes).found e) in (w.0, view_is_newest sh R w.0 s t n h l on ∙ w.1);
      once = λ b k b' k' n x y e f. same_place b k b' k' x y (located c (standing R) n) ((spread b k n x).found e) ((spread b' k' n y).found f);
    }
