-- Counts of numbers: what goes one to one into the numbers below m is at most m.
use Rattle.std.proofs.Common.{◌≡◌, ◌⊎◌, ℕ, zero, suc, ◌≤◌, ◌<◌, Bool, true, false, cond, not, eqb, List, [], ◌∷◌, length, filter, refl, sym, ◌∙◌, ap, subst, arith, inl, inr, eqb-true, true≢false}
use Rattle.seg_words.proofs.Lemmas.{cond-true, cond-false, cases_Bool, eqb-false, or_parts}
use Rattle.redo_laws.specs.Among.{is_in}
use Rattle.redo_laws.proofs.space.Apart.{Distinct, distinct-filter}
use Rattle.redo_laws.proofs.lists.Bools.{off}
use Rattle.redo_laws.proofs.lists.Every.{Every, filter-all}
use Rattle.open_laws.specs.Begins.{count_below}

-- a number is so, or none below n is
pub record Least (p : ℕ → Bool) (n : ℕ) : Type 0 where
  pub at : ℕ
  pub below : at < n
  pub is_so : p at ≡ true
  pub least : (j : ℕ) → j < at → p j ≡ false

abbrev pub NoneSo : (ℕ → Bool) → ℕ → Type 0
NoneSo p n = (j : ℕ) → j < n → p j ≡ false

pub search : (p : ℕ → Bool) (n : ℕ) → Least p n ⊎ NoneSo p n
search p zero = inr (λ j l. absurd (omega (arith, l)))
search p (suc n) = elim (search p n) [
  | inl h ↦ inl (record { at = h.at; below = (let l = h.below in omega (arith, l)); is_so = h.is_so; least = h.least })
  | inr h ↦ elim (cases_Bool (p n)) [
    | inl y ↦ inl (record { at = n; below = omega arith; is_so = y; least = h })
    | inr f ↦ inr (none_more p n h f)
  ]
]
  where
    none_more : (p : ℕ → Bool) (n : ℕ) → NoneSo p n → p n ≡ false → NoneSo p (suc n)
    none_more p n h f j l = elim (cases_Bool (eqb j n)) [
      | inl y ↦ ap p (eqb-true j n y) ∙ f
      | inr z ↦ h j (let k = eqb-false j n z in below_last j n l k)
    ]
      where
        below_last : (j n : ℕ) → j < suc n → (j ≡ n → ⊥) → j < n
        below_last j n l k = omega (arith, l, k)

-- where all are so the count is all
pub count_all : (p : ℕ → Bool) (n : ℕ) → ((j : ℕ) → j < n → p j ≡ true) → count_below p n ≡ n
count_all p zero h = refl
count_all p (suc n) h = cond-true _ _ _ (h n (omega arith)) ∙ ap (λ x. suc x) (count_all p n (λ j l. h j (omega (arith, l))))

abbrev other : ℕ → ℕ → Bool
other m x = not (eqb x m)

other_all : (m : ℕ) (xs : List ℕ) → is_in m xs ≡ false → Every (λ x. other m x ≡ true) xs
other_all m [] h = tt
other_all m (x ∷ xs) h = let q = or_parts (eqb x m) (is_in m xs) h in (ap not q.0, other_all m xs q.1)

-- leaving out one number leaves out at most one
less_one : (m : ℕ) (xs : List ℕ) → Distinct xs → length xs ≤ suc (length (filter (other m) xs))
less_one m [] h = omega arith
less_one m (x ∷ xs) h =
    (elim (eqb x m) as (λ v. eqb x m ≡ v → suc (length xs) ≤ suc (length (cond (not v) (x ∷ filter (other m) xs) (filter (other m) xs)))) [
      | true ↦ λ y.
          let same : filter (other m) xs ≡ xs = filter-all (other m) xs (other_all m xs (subst (λ z. is_in z xs ≡ false) (eqb-true x m y) h.0)) in
          let e : length (filter (other m) xs) ≡ length xs = ap (λ (ys : List ℕ). length ys) same in omega (arith, e)
      | false ↦ λ y. let l = less_one m xs h.1 in omega (arith, l)
    ]) refl

all_below : (m : ℕ) (xs : List ℕ) → Every (λ x. x < suc m) xs → Every (λ x. x < m) (filter (other m) xs)
all_below m [] h = tt
all_below m (x ∷ xs) h =
    (elim (eqb x m) as (λ v. eqb x m ≡ v → Every (λ x. x < m) (cond (not v) (x ∷ filter (other m) xs) (filter (other m) xs))) [
      | true ↦ λ y. all_below m xs h.1
      | false ↦ λ y. (less x m h.0 (eqb-false x m y), all_below m xs h.1)
    ]) refl
  where
    less : (x m : ℕ) → x < suc m → (x ≡ m → ⊥) → x < m
    less x m l n = omega (arith, l, n)

pub distinct_few : (m : ℕ) (xs : List ℕ) → Distinct xs → Every (λ x. x < m) xs → length xs ≤ m
distinct_few zero [] d h = omega arith
distinct_few zero (x ∷ xs) d h = (let l = h.0 in absurd (omega (arith, l)))
distinct_few (suc m) xs d h =
    let a = less_one m xs d in
    let b = distinct_few m (filter (other m) xs) (distinct-filter (other m) xs d) (all_below m xs h) in
    omega (arith, a, b)

-- each number below n that is so has one below m of its own
abbrev pub Into : (ℕ → Bool) → (ℕ → ℕ → Type 0) → ℕ → Type 0
Into p Rel m = (i : ℕ) → p i ≡ true → (w : ℕ) × (w < m) × Rel i w

abbrev pub OneToOne : (ℕ → ℕ → Type 0) → Type 0
OneToOne Rel = (i j w : ℕ) → Rel i w → Rel j w → i ≡ j

record Held (p : ℕ → Bool) (Rel : ℕ → ℕ → Type 0) (m n : ℕ) : Type 0 where
  list : List ℕ
  size : length list ≡ count_below p n
  distinct : Distinct list
  below : Every (λ w. w < m) list
  of : (w : ℕ) → is_in w list ≡ true → (i : ℕ) × (i < n) × Rel i w

held : (p : ℕ → Bool) (Rel : ℕ → ℕ → Type 0) (m n : ℕ) → Into p Rel m → OneToOne Rel → Held p Rel m n
held p Rel m zero f g = record { list = []; size = refl; distinct = tt; below = tt; of = λ w h. absurd (true≢false (sym h)) }
held p Rel m (suc n) f g =
    let h = held p Rel m n f g in
    elim (cases_Bool (p n)) [
      | inr z ↦ record { list = h.list; size = h.size ∙ sym (cond-false _ _ _ z); distinct = h.distinct; below = h.below; of = λ w i. let q = h.of w i in (q.0, (let l = q.1 in omega (arith, l)), q.2) }
      | inl y ↦
          let q = f n y in
          record {
            list = q.0 ∷ h.list;
            size = ap (λ k. suc k) h.size ∙ sym (cond-true _ _ _ y);
            distinct = (off (is_in q.0 h.list) (λ i. let o = h.of q.0 i in let e = g o.0 n q.0 o.2 q.2 in let l = o.1 in omega (arith, l, e)), h.distinct);
            below = (q.1, h.below);
            of = λ w i. elim (cases_Bool (eqb q.0 w)) [
              | inl e ↦ (n, omega arith, subst (Rel n) (eqb-true q.0 w e) q.2)
              | inr o ↦ let r = h.of w (sym (in_rest q.0 w h.list o) ∙ i) in (r.0, (let l = r.1 in omega (arith, l)), r.2)
            ];
          }
    ]
  where
    in_rest : (x w : ℕ) (xs : List ℕ) → eqb x w ≡ false → is_in w (x ∷ xs) ≡ is_in w xs
    in_rest x w xs o = rw o refl

pub count_few : (p : ℕ → Bool) (Rel : ℕ → ℕ → Type 0) (m n : ℕ) → Into p Rel m → OneToOne Rel → count_below p n ≤ m
count_few p Rel m n f g = let h = held p Rel m n f g in let l = distinct_few m h.list h.distinct h.below in let e = h.size in omega (arith, l, e)
