-- The active transaction of a session, as a list grows.
use Rattle.std.proofs.Common.{◌≡◌, ℕ, suc, ◌≤◌, true, false, cond, not, ◌&&◌, ◌||◌, eqb, List, [], ◌∷◌, Option, Some, None, refl, sym, ◌∙◌, ap, arith, inl, inr, eqb-true, eq-eqb, true≢false, ne_eqb}
use Rattle.seg_words.proofs.Lemmas.{cond-true, or_right, or_cases, cases_Bool, and_parts}
use Rattle.seg_words.specs.Types.{Shape}
use Rattle.redo_model.specs.Records.{Record, Begin, Commit, Ended}
use Rattle.redo_model.specs.Model.{txn_count, is_active, last_of_session, is_open, has_open, IsKindAllowed, AreAllowed}
use Rattle.session_laws.specs.Sessions.{without_txn, own_of}
use Rattle.session_laws.specs.Owners.{SessionOf}

-- each number is of one session, and from 1 to the count
pub record Tidy (own : ℕ → Option ℕ) (count : ℕ) : Type 0 where
  pub least : (w t : ℕ) → own w ≡ Some t → 1 ≤ t
  pub most : (w t : ℕ) → own w ≡ Some t → t ≤ count
  pub from : (w t : ℕ) → own w ≡ Some t → 1 ≤ w
  pub to : (w t : ℕ) → own w ≡ Some t → w ≤ 64
  pub one : (v w t : ℕ) → own v ≡ Some t → own w ≡ Some t → v ≡ w

pub same_some : (m n : ℕ) → ◌≡◌ {A = Option ℕ} (Some m) (Some n) → m ≡ n
same_some m n e = cc

pub none_some : (P : Type 0) (n : ℕ) → ◌≡◌ {A = Option ℕ} None (Some n) → P
none_some P n e = absurd cc

pub without_some : (u t : ℕ) (o : Option ℕ) → without_txn u o ≡ Some t → o ≡ Some t
without_some u t None e = e
without_some u t (Some x) e =
    (elim (eqb u x) as (λ v. cond v None (Some x) ≡ Some t → ◌≡◌ {A = Option ℕ} (Some x) (Some t)) [
      | true ↦ λ f. none_some _ t f
      | false ↦ λ f. f
    ]) e

pub without_other : (u t : ℕ) (o : Option ℕ) → without_txn u o ≡ Some t → eqb u t ≡ false
without_other u t None e = none_some _ t e
without_other u t (Some x) e =
    (elim (eqb u x) as (λ v. eqb u x ≡ v → cond v None (Some x) ≡ Some t → eqb u t ≡ false) [
      | true ↦ λ y f. none_some _ t f
      | false ↦ λ y f. ap (eqb u) (sym (same_some x t f)) ∙ y
    ]) refl e

tidy_begin : (own : ℕ → Option ℕ) (count w u : ℕ) → u ≡ suc count → 1 ≤ w → w ≤ 64 → Tidy own count → Tidy (λ x. cond (eqb w x) (Some u) (own x)) (suc count)
tidy_begin own count w u e a b h = record {
  least = λ x t f. (elim (eqb w x) as (λ v. cond v (Some u) (own x) ≡ Some t → 1 ≤ t) [
    | true ↦ λ g. let s : u ≡ t = same_some u t g in omega arith
    | false ↦ λ g. h.least x t g
  ]) f;
  most = λ x t f. (elim (eqb w x) as (λ v. cond v (Some u) (own x) ≡ Some t → t ≤ suc count) [
    | true ↦ λ g. let s : u ≡ t = same_some u t g in omega arith
    | false ↦ λ g. let l : t ≤ count = h.most x t g in omega arith
  ]) f;
  from = λ x t f. (elim (eqb w x) as (λ v. eqb w x ≡ v → cond v (Some u) (own x) ≡ Some t → 1 ≤ x) [
    | true ↦ λ y g. let s = eqb-true w x y in omega (arith, a, s)
    | false ↦ λ y g. h.from x t g
  ]) refl f;
  to = λ x t f. (elim (eqb w x) as (λ v. eqb w x ≡ v → cond v (Some u) (own x) ≡ Some t → x ≤ 64) [
    | true ↦ λ y g. let s = eqb-true w x y in omega (arith, b, s)
    | false ↦ λ y g. h.to x t g
  ]) refl f;
  one = λ x y t f g. both x y t f g;
}
  where
    both : (x y t : ℕ) → cond (eqb w x) (Some u) (own x) ≡ Some t → cond (eqb w y) (Some u) (own y) ≡ Some t → x ≡ y
    both x y t f g =
        (elim (eqb w x) as (λ v. eqb w x ≡ v → cond v (Some u) (own x) ≡ Some t → x ≡ y) [
          | true ↦ λ p f'. (elim (eqb w y) as (λ v. eqb w y ≡ v → cond v (Some u) (own y) ≡ Some t → x ≡ y) [
            | true ↦ λ q g'. sym (eqb-true w x p) ∙ eqb-true w y q
            | false ↦ λ q g'. let s : u ≡ t = same_some u t f' in let l : t ≤ count = h.most y t g' in absurd (omega arith)
          ]) refl g
          | false ↦ λ p f'. (elim (eqb w y) as (λ v. eqb w y ≡ v → cond v (Some u) (own y) ≡ Some t → x ≡ y) [
            | true ↦ λ q g'. let s : u ≡ t = same_some u t g' in let l : t ≤ count = h.most x t f' in absurd (omega arith)
            | false ↦ λ q g'. h.one x y t f' g'
          ]) refl g
        ]) refl f

tidy_without : (own : ℕ → Option ℕ) (count u : ℕ) → Tidy own count → Tidy (λ x. without_txn u (own x)) count
tidy_without own count u h = record {
  least = λ x t f. h.least x t (without_some u t (own x) f);
  most = λ x t f. h.most x t (without_some u t (own x) f);
  from = λ x t f. h.from x t (without_some u t (own x) f);
  to = λ x t f. h.to x t (without_some u t (own x) f);
  one = λ x y t f g. h.one x y t (without_some u t (own x) f) (without_some u t (own y) g);
}

tidy_none : Tidy (λ w. None) 0
tidy_none = record { least = λ w t e. none_some _ t e; most = λ w t e. none_some _ t e; from = λ w t e. none_some _ t e; to = λ w t e. none_some _ t e; one = λ v w t e f. none_some _ t e }

tidy_step : (sh : Shape) (R : List Record) (r : Record) → IsKindAllowed sh R r → Tidy (λ w. own_of R w) (txn_count R) → Tidy (λ w. own_of (r ∷ R) w) (txn_count (r ∷ R))
tidy_step sh R (Begin g) a h = tidy_begin (λ w. own_of R w) (txn_count R) g.session g.txn a.number a.session_from a.session_to h
tidy_step sh R (Commit c) a h = tidy_without (λ w. own_of R w) (txn_count R) c.txn h
tidy_step sh R (Ended e) a h = tidy_without (λ w. own_of R w) (txn_count R) e.txn h
tidy_step sh R _ a h = h

pub tidy : (sh : Shape) (R : List Record) → AreAllowed sh R → Tidy (λ w. own_of R w) (txn_count R)
tidy sh [] h = tidy_none
tidy sh (r ∷ R) h = tidy_step sh R r h.1.kind (tidy sh R h.0)

last_step : (sh : Shape) (R : List Record) (r : Record) → IsKindAllowed sh R r → Tidy (λ w. last_of_session R w) (txn_count R) → Tidy (λ w. last_of_session (r ∷ R) w) (txn_count (r ∷ R))
last_step sh R (Begin g) a h = tidy_begin (λ w. last_of_session R w) (txn_count R) g.session g.txn a.number a.session_from a.session_to h
last_step sh R _ a h = h

tidy_last : (sh : Shape) (R : List Record) → AreAllowed sh R → Tidy (λ w. last_of_session R w) (txn_count R)
tidy_last sh [] h = tidy_none
tidy_last sh (r ∷ R) h = last_step sh R r h.1.kind (tidy_last sh R h.0)

-- a session's transaction is active, and the last that it began

active_step : (R : List Record) (r : Record) (w t : ℕ) → ((t : ℕ) → own_of R w ≡ Some t → is_active R t ≡ true) → own_of (r ∷ R) w ≡ Some t → is_active (r ∷ R) t ≡ true
active_step R (Begin g) w t h e =
    (elim (eqb g.session w) as (λ v. cond v (Some g.txn) (own_of R w) ≡ Some t → (eqb g.txn t || is_active R t) ≡ true) [
      | true ↦ λ f. ap (λ v. v || is_active R t) (eq-eqb g.txn t (same_some g.txn t f))
      | false ↦ λ f. or_right (eqb g.txn t) _ (h t f)
    ]) e
active_step R (Commit c) w t h e = ap (λ v. not v && is_active R t) (without_other c.txn t (own_of R w) e) ∙ h t (without_some c.txn t (own_of R w) e)
active_step R (Ended c) w t h e = ap (λ v. not v && is_active R t) (without_other c.txn t (own_of R w) e) ∙ h t (without_some c.txn t (own_of R w) e)
active_step R _ w t h e = h t e

pub own_active : (R : List Record) (w t : ℕ) → own_of R w ≡ Some t → is_active R t ≡ true
own_active [] w t e = none_some _ t e
own_active (r ∷ R) w t e = active_step R r w t (λ u f. own_active R w u f) e

latest_step : (R : List Record) (r : Record) (w t : ℕ) → ((t : ℕ) → own_of R w ≡ Some t → last_of_session R w ≡ Some t) → own_of (r ∷ R) w ≡ Some t → last_of_session (r ∷ R) w ≡ Some t
latest_step R (Begin g) w t h e =
    (elim (eqb g.session w) as (λ v. cond v (Some g.txn) (own_of R w) ≡ Some t → cond v (Some g.txn) (last_of_session R w) ≡ Some t) [
      | true ↦ λ f. f
      | false ↦ λ f. h t f
    ]) e
latest_step R (Commit c) w t h e = h t (without_some c.txn t (own_of R w) e)
latest_step R (Ended c) w t h e = h t (without_some c.txn t (own_of R w) e)
latest_step R _ w t h e = h t e

pub own_last : (R : List Record) (w t : ℕ) → own_of R w ≡ Some t → last_of_session R w ≡ Some t
own_last [] w t e = none_some _ t e
own_last (r ∷ R) w t e = latest_step R r w t (λ u f. own_last R w u f) e

-- where a session has a transaction, it is open
own_opened : (R : List Record) (w t : ℕ) → own_of R w ≡ Some t → has_open R w ≡ true
own_opened R w t e = ap (is_open R) (own_last R w t e) ∙ own_active R w t e

-- each active transaction is of a session

whose_begin : (R : List Record) (session txn t : ℕ) → 1 ≤ session → session ≤ 64 → has_open R session ≡ false → (is_active R t ≡ true → SessionOf R t) → (eqb txn t || is_active R t) ≡ true
    → (w : ℕ) × (1 ≤ w) × (w ≤ 64) × (cond (eqb session w) (Some txn) (own_of R w) ≡ Some t)
whose_begin R session txn t a b none h on = elim (cases_Bool (eqb txn t)) [
  | inl y ↦ (session, a, b, cond-true _ _ _ (eq-eqb session session refl) ∙ ap (λ (x : ℕ). Some x) (eqb-true txn t y))
  | inr n ↦
      let s = h (elim (or_cases (eqb txn t) (is_active R t) on) [ inl y ↦ absurd (true≢false (sym y ∙ n)) | inr z ↦ z ]) in
      let two : eqb session s.session ≡ false = ne_eqb session s.session (λ e. true≢false (sym (ap (has_open R) e ∙ own_opened R s.session t s.own) ∙ none)) in
      (s.session, s.from, s.to, ap (λ v. cond v (Some txn) (own_of R s.session)) two ∙ s.own)
]

whose_without : (R : List Record) (u t : ℕ) → (is_active R t ≡ true → SessionOf R t) → (not (eqb u t) && is_active R t) ≡ true → (w : ℕ) × (1 ≤ w) × (w ≤ 64) × (without_txn u (own_of R w) ≡ Some t)
whose_without R u t h on =
    let q = and_parts (not (eqb u t)) (is_active R t) on in
    let s = h q.1 in
    (s.session, s.from, s.to, ap (without_txn u) s.own ∙ left (eqb u t) q.0)
  where
    left : (v : _) → not v ≡ true → cond v None (Some t) ≡ Some t
    left true e = absurd (true≢false (sym e))
    left false e = refl

whose_step : (sh : Shape) (R : List Record) (r : Record) (t : ℕ) → IsKindAllowed sh R r → (is_active R t ≡ true → SessionOf R t) → is_active (r ∷ R) t ≡ true → SessionOf (r ∷ R) t
whose_step sh R (Begin g) t a h on = let s = whose_begin R g.session g.txn t a.session_from a.session_to a.none_open h on in record { session = s.0; from = s.1; to = s.2; own = s.3 }
whose_step sh R (Commit c) t a h on = let s = whose_without R c.txn t h on in record { session = s.0; from = s.1; to = s.2; own = s.3 }
whose_step sh R (Ended e) t a h on = let s = whose_without R e.txn t h on in record { session = s.0; from = s.1; to = s.2; own = s.3 }
whose_step sh R _ t a h on = let s = h on in record { session = s.session; from = s.from; to = s.to; own = s.own }

pub whose : (sh : Shape) (R : List Record) (t : ℕ) → AreAllowed sh R → is_active R t ≡ true → SessionOf R t
whose sh [] t h on = absurd (true≢false (sym on))
whose sh (r ∷ R) t h on = whose_step sh R r t h.1.kind (λ x. whose sh R t h.0 x) on

-- a session without a transaction has none open
pub none_opened : (sh : Shape) (R : List Record) (w : ℕ) → AreAllowed sh R → own_of R w ≡ None → has_open R w ≡ false
none_opened sh R w h e = go (last_of_session R w) refl
  where
    live : (t : ℕ) → last_of_session R w ≡ Some t → is_active R t ≡ true → ⊥
    live t l on =
        let s = whose sh R t h on in
        let same : s.session ≡ w = (tidy_last sh R h).one s.session w t (own_last R s.session t s.own) l in
        none_some ⊥ t (sym e ∙ ap (own_of R) (sym same) ∙ s.own)

    over : (t : ℕ) → last_of_session R w ≡ Some t → is_active R t ≡ false
    over t l = elim (cases_Bool (is_active R t)) [ inl y ↦ absurd (live t l y) | inr n ↦ n ]

    go : (o : Option ℕ) → last_of_session R w ≡ o → is_open R (last_of_session R w) ≡ false
    go None l = ap (is_open R) l
    go (Some t) l = ap (is_open R) l ∙ over t l
