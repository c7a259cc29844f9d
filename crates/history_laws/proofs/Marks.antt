-- The marks of scans, as records are added and as more blocks are read.
use Rattle.std.proofs.Common.{◌≡◌, ℕ, zero, suc, ◌≤◌, Bool, true, false, cond, ◌||◌, ◌&&◌, eqb, eqb-true, ltb, List, [], ◌∷◌, length, drop, min, Option, Some, None, refl, sym, ◌∙◌, ap, ap₂, subst, arith, true≢false, le-ltb, lt-ltb, inl, inr}
use Rattle.seg_words.proofs.Lemmas.{cond-false, cond-true, or_right, or_cases}
use Rattle.seg_words.specs.Types.{Shape}
use Rattle.redo_model.specs.Records.{Record, Lower}
use Rattle.redo_model.specs.Model.{in_extent}
use Rattle.redo_laws.specs.Among.{is_in}
use Rattle.scan_laws.specs.Staying.{has_block, releases, is_released_since}
use Rattle.history_model.specs.Released.{Gone, has_any, least_with, least_having, gone_with, gone_by, or_else, first_gone}

-- options

pub first_none : (m g : Option Gone) → or_else m g ≡ None → m ≡ None
first_none None g e = refl
first_none (Some x) g e = e

pub second_none : (m g : Option Gone) → or_else m g ≡ None → g ≡ None
second_none None g e = e
second_none (Some x) g e = absurd (let z : ◌≡◌ {A = Option Gone} (Some x) None = e in cc)

pub or_none : (m : Option Gone) → or_else m None ≡ m
or_none None = refl
or_none (Some x) = refl

pub or_assoc : (m g h : Option Gone) → or_else (or_else m g) h ≡ or_else m (or_else g h)
or_assoc None g h = refl
or_assoc (Some x) g h = refl

-- the first release

pub first_more : (sh : Shape) (o : ℕ) (unread : List ℕ) (n : ℕ) (R : List Record) (r : Record) → n ≤ length R → first_gone sh o unread n (r ∷ R) ≡ or_else (first_gone sh o unread n R) (gone_by sh r o unread)
first_more sh o unread n R r l = cond-false _ _ _ (le-ltb (length R) n l)

-- nothing was released before anything was added
pub none_since : (sh : Shape) (o : ℕ) (unread : List ℕ) (R : List Record) → first_gone sh o unread (length R) R ≡ None
none_since sh o unread [] = refl
none_since sh o unread (r ∷ R) = cond-true _ _ _ (lt-ltb (length R) (suc (length R)) (omega arith))

-- where nothing was released that has one of the blocks, none of the blocks was

none_with : (x : ℕ) (o : Option ℕ) (P : Type 0) → least_with x o ≡ None → P
none_with x None P e = absurd (let z : ◌≡◌ {A = Option ℕ} (Some x) None = e in cc)
none_with x (Some y) P e = absurd (let z : ◌≡◌ {A = Option ℕ} (Some (min x y)) None = e in cc)

gone_none : (n : ℕ) (o : Option ℕ) → gone_with n o ≡ None → o ≡ None
gone_none n None e = refl
gone_none n (Some x) e = absurd (let z : ◌≡◌ {A = Option Gone} (Some (record { extent = x; lowering = n })) None = e in cc)

not_any : (sh : Shape) (x b : ℕ) (bs : List ℕ) → has_any sh x bs ≡ false → is_in b bs ≡ true → in_extent sh x b ≡ false
not_any sh x b [] e h = absurd (true≢false (sym h))
not_any sh x b (c ∷ bs) e h =
    elim (or_cases (eqb c b) (is_in b bs) h) [
      | inl y ↦ subst (λ z. in_extent sh x z ≡ false) (eqb-true c b y) (first_off (in_extent sh x c) (has_any sh x bs) e)
      | inr y ↦ not_any sh x b bs (second_off (in_extent sh x c) (has_any sh x bs) e) y
    ]
  where
    first_off : (u v : Bool) → (u || v) ≡ false → u ≡ false
    first_off false v e = refl
    first_off true v e = absurd (true≢false e)

    second_off : (u v : Bool) → (u || v) ≡ false → v ≡ false
    second_off false v e = e
    second_off true v e = absurd (true≢false e)

none_having : (sh : Shape) (unread xs : List ℕ) (b : ℕ) → least_having sh unread xs ≡ None → is_in b unread ≡ true → has_block sh xs b ≡ false
none_having sh unread [] b e h = refl
none_having sh unread (x ∷ xs) b e h =
    (elim (has_any sh x unread) as (λ v. has_any sh x unread ≡ v → cond v (least_with x (least_having sh unread xs)) (least_having sh unread xs) ≡ None → (in_extent sh x b || has_block sh xs b) ≡ false) [
      | true ↦ λ y f. none_with x (least_having sh unread xs) _ f
      | false ↦ λ y f. ap₂ (λ u v. u || v) (not_any sh x b unread y h) (none_having sh unread xs b f h)
    ]) refl e

not_released : (sh : Shape) (r : Record) (o b : ℕ) (unread : List ℕ) → gone_by sh r o unread ≡ None → is_in b unread ≡ true → releases sh o b r ≡ false
not_released sh (Lower l) o b unread e h =
    (elim (eqb l.obj o) as (λ v. cond v (gone_with l.lowering (least_having sh unread l.released)) None ≡ None → (v && has_block sh l.released b) ≡ false) [
      | true ↦ λ f. none_having sh unread l.released b (gone_none l.lowering (least_having sh unread l.released) f) h
      | false ↦ λ f. refl
    ]) e
not_released sh _ o b unread e h = refl

pub none_released : (sh : Shape) (o n b : ℕ) (unread : List ℕ) (R : List Record) → first_gone sh o unread n R ≡ None → is_in b unread ≡ true → is_released_since sh n R o b ≡ false
none_released sh o n b unread [] e h = refl
none_released sh o n b unread (r ∷ R) e h =
    (elim (ltb (length R) n) as (λ v. cond v None (or_else (first_gone sh o unread n R) (gone_by sh r o unread)) ≡ None → cond v false (releases sh o b r || is_released_since sh n R o b) ≡ false) [
      | true ↦ λ f. refl
      | false ↦ λ f. ap₂ (λ u v. u || v) (not_released sh r o b unread (second_none (first_gone sh o unread n R) (gone_by sh r o unread) f) h) (none_released sh o n b unread R (first_none (first_gone sh o unread n R) (gone_by sh r o unread) f) h)
    ]) e

-- fewer blocks

abbrev pub AreFewer : Shape → List ℕ → List ℕ → Type 0
AreFewer sh ys xs = (x : ℕ) → has_any sh x ys ≡ true → has_any sh x xs ≡ true

fewer_off : (sh : Shape) (ys xs : List ℕ) (x : ℕ) → AreFewer sh ys xs → has_any sh x xs ≡ false → has_any sh x ys ≡ false
fewer_off sh ys xs x f y = (elim (has_any sh x ys) as (λ v. has_any sh x ys ≡ v → v ≡ false) [ true ↦ λ z. absurd (true≢false (sym (f x z) ∙ y)) | false ↦ λ z. refl ]) refl

fewer_having : (sh : Shape) (ys xs es : List ℕ) → AreFewer sh ys xs → least_having sh xs es ≡ None → least_having sh ys es ≡ None
fewer_having sh ys xs [] f h = refl
fewer_having sh ys xs (e ∷ es) f h =
    (elim (has_any sh e xs) as (λ v. has_any sh e xs ≡ v → cond v (least_with e (least_having sh xs es)) (least_having sh xs es) ≡ None → cond (has_any sh e ys) (least_with e (least_having sh ys es)) (least_having sh ys es) ≡ None) [
      | true ↦ λ y g. none_with e (least_having sh xs es) _ g
      | false ↦ λ y g. cond-false _ _ _ (fewer_off sh ys xs e f y) ∙ fewer_having sh ys xs es f g
    ]) refl h

fewer_by : (sh : Shape) (r : Record) (o : ℕ) (ys xs : List ℕ) → AreFewer sh ys xs → gone_by sh r o xs ≡ None → gone_by sh r o ys ≡ None
fewer_by sh (Lower l) o ys xs f h =
    (elim (eqb l.obj o) as (λ v. cond v (gone_with l.lowering (least_having sh xs l.released)) None ≡ None → cond v (gone_with l.lowering (least_having sh ys l.released)) None ≡ None) [
      | true ↦ λ e. ap (gone_with l.lowering) (fewer_having sh ys xs l.released f (gone_none l.lowering (least_having sh xs l.released) e))
      | false ↦ λ e. refl
    ]) h
fewer_by sh _ o ys xs f h = refl

pub fewer_gone : (sh : Shape) (o n : ℕ) (ys xs : List ℕ) (R : List Record) → AreFewer sh ys xs → first_gone sh o xs n R ≡ None → first_gone sh o ys n R ≡ None
fewer_gone sh o n ys xs [] f h = refl
fewer_gone sh o n ys xs (r ∷ R) f h =
    (elim (ltb (length R) n) as (λ v. cond v None (or_else (first_gone sh o xs n R) (gone_by sh r o xs)) ≡ None → cond v None (or_else (first_gone sh o ys n R) (gone_by sh r o ys)) ≡ None) [
      | true ↦ λ e. refl
      | false ↦ λ e. ap₂ or_else (fewer_gone sh o n ys xs R f (first_none (first_gone sh o xs n R) (gone_by sh r o xs) e)) (fewer_by sh r o ys xs f (second_none (first_gone sh o xs n R) (gone_by sh r o xs) e))
    ]) h

pub drop_fewer : (sh : Shape) (n : ℕ) (xs : List ℕ) → AreFewer sh (drop (suc n) xs) (drop n xs)
drop_fewer sh n [] x h = absurd (true≢false (sym h))
drop_fewer sh zero (y ∷ ys) x h = or_right (in_extent sh x y) _ h
drop_fewer sh (suc n) (y ∷ ys) x h = drop_fewer sh n ys x h
