-- No extent is twice in a table, so no data block is.
use Rattle.std.proofs.Common.{◌≡◌, ℕ, zero, suc, ◌+◌, ◌-◌, true, false, cond, eqb, List, [], ◌∷◌, ◌++◌, length, take, filter, refl, sym, ◌∙◌, subst, arith, inl, inr, Bool, eqb-true, true≢false, eq-eqb}
use Rattle.seg_words.proofs.Lemmas.{eqb-false, or_parts, or_cases, or_left, or_right}
use Rattle.seg_words.specs.Types.{Shape, first_block, head_blocks}
use Rattle.redo_model.specs.Records.{Record, Extend, Lower}
use Rattle.redo_model.specs.Model.{Extent, extents_of, blocks_from, extent_data, data_of, data_blocks, under_high, high_mark, has_extent, IsKindAllowed, AreAllowed}
use Rattle.redo_laws.specs.Among.{is_in}
use Rattle.redo_laws.proofs.lists.Bools.{off}
use Rattle.redo_laws.proofs.space.Places.{in_range, in_either, in_take, data_in_extent, in_data, same_extent, IsNumber, free_has, has_taken}

-- extents

abbrev pub Apart : List Extent → Type 0
Apart [] = Unit {0}
Apart (e ∷ es) = (has_extent es e.number ≡ false) × Apart es

apart-take : (n : ℕ) (es : List Extent) → Apart es → Apart (take n es)
apart-take zero es h = tt
apart-take (suc n) [] h = tt
apart-take (suc n) (e ∷ es) h = (off _ (λ y. true≢false (sym (has_taken n es e.number y) ∙ h.0)), apart-take n es h.1)

lacks_added : (es : List Extent) (e : Extent) (x : ℕ) → has_extent es x ≡ false → eqb e.number x ≡ false → has_extent (es ++ e ∷ []) x ≡ false
lacks_added [] e x h f = rw f refl
lacks_added (y ∷ es) e x h f = let p = or_parts (eqb y.number x) (has_extent es x) h in rw p.0 (lacks_added es e x p.1 f)

apart-end : (es : List Extent) (e : Extent) → Apart es → has_extent es e.number ≡ false → Apart (es ++ e ∷ [])
apart-end [] e h f = (refl, tt)
apart-end (x ∷ es) e h f =
    let p = or_parts (eqb x.number e.number) (has_extent es e.number) f in
    (lacks_added es e x.number h.0 (off _ (λ y. eqb-false x.number e.number p.0 (sym (eqb-true e.number x.number y)))), apart-end es e h.1 p.1)

apart_step : (sh : Shape) (R : List Record) (r : Record) (o : ℕ) → IsNumber o → IsKindAllowed sh R r → Apart (extents_of R o) → Apart (extents_of (r ∷ R) o)
apart_step sh R (Extend e) o n a h =
    elim (eqb e.obj o) as (λ v. Apart (cond v (extents_of R o ++ record { number = e.extent; incarnation = suc (length R) } ∷ []) (extents_of R o))) [
      | true ↦ apart-end (extents_of R o) (record { number = e.extent; incarnation = suc (length R) }) h (off _ (λ y. free_has sh R o e.extent n a.extent.free y))
      | false ↦ h
    ]
apart_step sh R (Lower l) o n a h = elim (eqb l.obj o) as (λ v. Apart (cond v (take l.kept (extents_of R o)) (extents_of R o))) [ true ↦ apart-take l.kept (extents_of R o) h | false ↦ h ]
apart_step sh R _ o n a h = h

pub apart_extents : (sh : Shape) (R : List Record) (o : ℕ) → AreAllowed sh R → IsNumber o → Apart (extents_of R o)
apart_extents sh [] o h n = tt
apart_extents sh (r ∷ R) o h n = apart_step sh R r o n h.1.kind (apart_extents sh R o h.0 n)

-- blocks

abbrev pub Distinct : List ℕ → Type 0
Distinct [] = Unit {0}
Distinct (b ∷ bs) = (is_in b bs ≡ false) × Distinct bs

distinct_range : (b n : ℕ) → Distinct (blocks_from b n)
distinct_range b zero = tt
distinct_range b (suc n) = (off _ (λ y. let r = in_range b (suc b) n y in absurd (omega (arith, r.0))), distinct_range (suc b) n)

distinct-append : (xs ys : List ℕ) → Distinct xs → Distinct ys → ((b : ℕ) → is_in b xs ≡ true → is_in b ys ≡ true → ⊥) → Distinct (xs ++ ys)
distinct-append [] ys p q h = q
distinct-append (x ∷ xs) ys p q h = (
  off _ (λ y. elim (in_either x xs ys y) [ inl z ↦ true≢false (sym z ∙ p.0) | inr z ↦ h x (or_left (eqb x x) _ (eq-eqb x x refl)) z ]),
  distinct-append xs ys p.1 q (λ b m. h b (or_right (eqb x b) _ m)),
)

distinct-take : (n : ℕ) (bs : List ℕ) → Distinct bs → Distinct (take n bs)
distinct-take zero bs h = tt
distinct-take (suc n) [] h = tt
distinct-take (suc n) (b ∷ bs) h = (off _ (λ y. true≢false (sym (in_take b n bs y) ∙ h.0)), distinct-take n bs h.1)

-- what is in a filter is in the list, and meets the test
pub in_filter : (p : ℕ → Bool) (b : ℕ) (bs : List ℕ) → is_in b (filter p bs) ≡ true → (is_in b bs ≡ true) × (p b ≡ true)
in_filter p b [] h = absurd (true≢false (sym h))
in_filter p b (x ∷ bs) h =
    (elim (p x) as (λ v. p x ≡ v → is_in b (cond v (x ∷ filter p bs) (filter p bs)) ≡ true → (is_in b (x ∷ bs) ≡ true) × (p b ≡ true)) [
      | true ↦ λ e k. elim (or_cases (eqb x b) (is_in b (filter p bs)) k) [
        | inl y ↦ (or_left (eqb x b) _ y, subst (λ z. p z ≡ true) (eqb-true x b y) e)
        | inr y ↦ let r = in_filter p b bs y in (or_right (eqb x b) _ r.0, r.1)
      ]
      | false ↦ λ e k. let r = in_filter p b bs k in (or_right (eqb x b) _ r.0, r.1)
    ]) refl h

pub filter_has : (p : ℕ → Bool) (b : ℕ) (bs : List ℕ) → is_in b bs ≡ true → p b ≡ true → is_in b (filter p bs) ≡ true
filter_has p b [] h f = absurd (true≢false (sym h))
filter_has p b (x ∷ bs) h f =
    (elim (p x) as (λ v. p x ≡ v → is_in b (cond v (x ∷ filter p bs) (filter p bs)) ≡ true) [
      | true ↦ λ e. elim (or_cases (eqb x b) (is_in b bs) h) [ inl y ↦ or_left (eqb x b) _ y | inr y ↦ or_right (eqb x b) _ (filter_has p b bs y f) ]
      | false ↦ λ e. elim (or_cases (eqb x b) (is_in b bs) h) [ inl y ↦ absurd (true≢false (sym (subst (λ z. p z ≡ true) (sym (eqb-true x b y)) f) ∙ e)) | inr y ↦ filter_has p b bs y f ]
    ]) refl

pub distinct-filter : (p : ℕ → Bool) (bs : List ℕ) → Distinct bs → Distinct (filter p bs)
distinct-filter p [] h = tt
distinct-filter p (b ∷ bs) h =
    elim (p b) as (λ v. Distinct (cond v (b ∷ filter p bs) (filter p bs))) [
      | true ↦ (off _ (λ y. true≢false (sym (in_filter p b bs y).0 ∙ h.0)), distinct-filter p bs h.1)
      | false ↦ distinct-filter p bs h.1
    ]

pub distinct_data : (sh : Shape) (i : ℕ) (es : List Extent) → Apart es → Distinct (data_of sh i es)
distinct_data sh i [] h = tt
distinct_data sh i (e ∷ es) h =
    distinct-append (extent_data sh i e.number) (data_of sh (suc i) es)
    (distinct_range (first_block sh e.number + head_blocks i) (sh.extent - head_blocks i))
    (distinct_data sh (suc i) es h.1)
    (λ b m k.
    let x = data_in_extent sh i e.number b m in
    let y = in_data sh (suc i) es b k in
    let same : y.extent ≡ e.number = same_extent sh y.extent e.number b y.from y.to x.0 x.1 in
    true≢false (sym (subst (λ z. has_extent es z ≡ true) same y.has) ∙ h.0))

pub distinct_scan : (sh : Shape) (R : List Record) (o : ℕ) (p : ℕ → Bool) → AreAllowed sh R → IsNumber o → Distinct (filter p (under_high sh R o))
distinct_scan sh R o p h n = distinct-filter p (under_high sh R o) (distinct-take (high_mark R o) (data_blocks sh R o) (distinct_data sh 0 (extents_of R o) (apart_extents sh R o h n)))
