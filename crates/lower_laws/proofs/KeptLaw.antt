-- How many extents are kept, by which of them are vacant.
use Rattle.std.proofs.Common.{◌≡◌, ℕ, zero, suc, ◌+◌, ◌<◌, ◌≤◌, Bool, true, false, cond, List, [], ◌∷◌, length, drop, Option, Some, None, refl, sym, ◌∙◌, ap, subst, arith}
use Rattle.seg_words.proofs.Lemmas.{cond-true, cond-false}
use Rattle.seg_words.specs.Types.{Shape}
use Rattle.redo_model.specs.Records.{Record}
use Rattle.redo_model.specs.Model.{Extent, extents_of, extent_at, is_vacant, kept_length}
use Rattle.mark_laws.proofs.TablesThere.{has_one}
use Rattle.lower_laws.specs.Kept.{KeptIsTold, KeptIsWithin}

-- one extent more in front, where so many of those behind it are kept
abbrev kept_before : Bool → ℕ → ℕ
kept_before v n = elim n as (λ _. ℕ) [ zero ↦ cond v 0 1 | suc m ↦ suc (suc m) ]

at_none : (i : ℕ) (e : Extent) → extent_at [] i ≡ Some e → ⊥
at_none zero e at = (let z : ◌≡◌ {A = Option Extent} None (Some e) = at in cc)
at_none (suc i) e at = (let z : ◌≡◌ {A = Option Extent} None (Some e) = at in cc)

-- where all are vacant none is kept
kept_none : (sh : Shape) (R : List Record) (index : ℕ) (es : List Extent) → ((j : ℕ) (e : Extent) → extent_at es j ≡ Some e → is_vacant sh R (index + j) e.number ≡ true) → kept_length sh R index es ≡ 0
kept_none sh R index [] h = refl
kept_none sh R index (e ∷ es) h =
    let rest : kept_length sh R (suc index) es ≡ 0 = kept_none sh R (suc index) es (λ j f at. subst (λ (i : ℕ). is_vacant sh R i f.number ≡ true) (let z : index + suc j ≡ suc index + j = omega arith in z) (h (suc j) f at)) in
    let here : is_vacant sh R index e.number ≡ true = subst (λ (i : ℕ). is_vacant sh R i e.number ≡ true) (let z : index + 0 ≡ index = omega arith in z) (h 0 e refl) in
    ap (kept_before (is_vacant sh R index e.number)) rest ∙ cond-true (is_vacant sh R index e.number) 0 1 here

-- up to the last one that isn't vacant
kept_some : (sh : Shape) (R : List Record) (index i : ℕ) (es : List Extent) (e : Extent) → extent_at es i ≡ Some e → is_vacant sh R (index + i) e.number ≡ false
    → ((j : ℕ) (f : Extent) → i < j → extent_at es j ≡ Some f → is_vacant sh R (index + j) f.number ≡ true) → kept_length sh R index es ≡ suc i
kept_some sh R index i [] e at n h = absurd (at_none i e at)
kept_some sh R index zero (x ∷ es) e at n h =
    let same : x ≡ e = (let z : ◌≡◌ {A = Option Extent} (Some x) (Some e) = at in cc) in
    let rest : kept_length sh R (suc index) es ≡ 0 = kept_none sh R (suc index) es (λ j f t. subst (λ (k : ℕ). is_vacant sh R k f.number ≡ true) (let z : index + suc j ≡ suc index + j = omega arith in z) (h (suc j) f (omega arith) t)) in
    let here : is_vacant sh R index e.number ≡ false = subst (λ (k : ℕ). is_vacant sh R k e.number ≡ false) (let z : index + 0 ≡ index = omega arith in z) n in
    let there : is_vacant sh R index x.number ≡ false = subst (λ (y : Extent). is_vacant sh R index y.number ≡ false) (sym same) here in
    ap (kept_before (is_vacant sh R index x.number)) rest ∙ cond-false (is_vacant sh R index x.number) 0 1 there
kept_some sh R index (suc i) (x ∷ es) e at n h =
    ap (kept_before (is_vacant sh R index x.number)) (kept_some sh R (suc index) i es e at
    (subst (λ (k : ℕ). is_vacant sh R k e.number ≡ false) (let z : index + suc i ≡ suc index + i = omega arith in z) n)
    (λ j f l t. subst (λ (k : ℕ). is_vacant sh R k f.number ≡ true) (let z : index + suc j ≡ suc index + j = omega arith in z) (h (suc j) f (omega (arith, l)) t)))

first_told : (sh : Shape) (R : List Record) (es : List Extent) → ((i : ℕ) (e : Extent) → 1 ≤ i → extent_at es i ≡ Some e → is_vacant sh R i e.number ≡ true) → suc (kept_length sh R 1 (drop 1 es)) ≡ 1
first_told sh R [] h = refl
first_told sh R (x ∷ es) h = ap (λ (n : ℕ). suc n) (kept_none sh R 1 es (λ j e at. subst (λ (i : ℕ). is_vacant sh R i e.number ≡ true) (let z : suc j ≡ 1 + j = omega arith in z) (h (suc j) e (omega arith) at)))

last_told : (sh : Shape) (R : List Record) (es : List Extent) (i : ℕ) (e : Extent) → 1 ≤ i → extent_at es i ≡ Some e → is_vacant sh R i e.number ≡ false → ((j : ℕ) (f : Extent) → suc i ≤ j → extent_at es j ≡ Some f → is_vacant sh R j f.number ≡ true) → suc (kept_length sh R 1 (drop 1 es)) ≡ suc i
last_told sh R [] i e l at n h = absurd (at_none i e at)
last_told sh R (x ∷ es) zero e l at n h = absurd (omega (arith, l))
last_told sh R (x ∷ es) (suc i) e l at n h =
    ap (λ (m : ℕ). suc m) (kept_some sh R 1 i es e at
    (subst (λ (k : ℕ). is_vacant sh R k e.number ≡ false) (let z : suc i ≡ 1 + i = omega arith in z) n)
    (λ j f m t. subst (λ (k : ℕ). is_vacant sh R k f.number ≡ true) (let z : suc j ≡ 1 + j = omega arith in z) (h (suc j) f (omega (arith, m)) t)))

pub kept_is_told : KeptIsTold
kept_is_told sh R o = record {
  first = λ h. first_told sh R (extents_of R o) h;
  last = λ i e l at n h. last_told sh R (extents_of R o) i e l at n h;
}

-- no more than there are

before_within : (v : Bool) (n m : ℕ) → n ≤ m → kept_before v n ≤ suc m
before_within true zero m l = omega arith
before_within false zero m l = omega arith
before_within v (suc n) m l = omega (arith, l)

kept_within : (sh : Shape) (R : List Record) (index : ℕ) (es : List Extent) → kept_length sh R index es ≤ length es
kept_within sh R index [] = omega arith
kept_within sh R index (e ∷ es) = before_within (is_vacant sh R index e.number) (kept_length sh R (suc index) es) (length es) (kept_within sh R (suc index) es)

rest_within : (sh : Shape) (R : List Record) (es : List Extent) → 1 ≤ length es → suc (kept_length sh R 1 (drop 1 es)) ≤ length es
rest_within sh R [] l = absurd (omega (arith, l))
rest_within sh R (e ∷ es) l = (let k = kept_within sh R 1 es in omega (arith, k))

pub kept_is_within : KeptIsWithin
kept_is_within sh R o h t = rest_within sh R (extents_of R o) (has_one sh R o h.allowed h.whole t)
