-- Sums over the numbers below one.
use Rattle.std.proofs.Common.{◌≡◌, ℕ, zero, suc, ◌+◌, ◌<◌, ◌≤◌, List, [], ◌∷◌, length, get_or, refl, sym, ◌∙◌, ap, ap₂, subst, arith, inl, inr, le_refl, sum_by}
use Rattle.seg_words.proofs.Lemmas.{cases_order, sum_by-append}

abbrev pub sum_below : ℕ → (ℕ → ℕ) → ℕ
sum_below zero f = 0
sum_below (suc n) f = sum_below n f + f n

pub sum_less : (n : ℕ) (f g : ℕ → ℕ) → ((k : ℕ) → k < n → f k ≤ g k) → sum_below n f ≤ sum_below n g
sum_less zero f g h = omega arith
sum_less (suc n) f g h = let a = sum_less n f g (λ k l. h k (omega arith)) in let b = h n (omega arith) in omega arith

pub sum_more : (m n : ℕ) (f : ℕ → ℕ) → m ≤ n → sum_below m f ≤ sum_below n f
sum_more m zero f l = let e : m ≡ 0 = omega arith in subst (λ x. sum_below x f ≤ 0) (sym e) (omega arith)
sum_more m (suc n) f l =
    elim (cases_order m (suc n)) [
      | inl e ↦ subst (λ x. sum_below x f ≤ sum_below (suc n) f) (sym e) (le_refl (sum_below (suc n) f))
      | inr w ↦ elim w [ inl b ↦ (let a = sum_more m n f (omega arith) in omega arith) | inr a ↦ absurd (omega arith) ]
    ]

-- all are less but one, which grows by at most d
pub sum_one : (n j d : ℕ) (f g : ℕ → ℕ) → j < n → f j ≤ g j + d → ((k : ℕ) → k < n → (k ≡ j → ⊥) → f k ≤ g k) → sum_below n f ≤ sum_below n g + d
sum_one zero j d f g l o h = absurd (omega arith)
sum_one (suc n) j d f g l o h =
    elim (cases_order j n) [
      | inl e ↦ let a = sum_less n f g (λ k b. h k (omega arith) (λ x. omega arith)) in let c : f n ≤ g n + d = subst (λ x. f x ≤ g x + d) e o in omega arith
      | inr w ↦ elim w [
        | inl b ↦ let a = sum_one n j d f g b o (λ k m. h k (omega arith)) in let c = h n (omega arith) (λ x. omega arith) in omega arith
        | inr b ↦ absurd (omega arith)
      ]
    ]

sum_front : (n : ℕ) (f : ℕ → ℕ) → sum_below (suc n) f ≡ f 0 + sum_below n (λ k. f (suc k))
sum_front zero f = omega arith
sum_front (suc n) f = let e = sum_front n f in omega arith

sum_cons : {A : Type 0} (f : A → ℕ) (x : A) (xs : List A) → sum_by f (x ∷ xs) ≡ f x + sum_by f xs
sum_cons f x xs = let e : sum_by f (x ∷ xs) ≡ sum_by f (x ∷ []) + sum_by f xs = sum_by-append f (x ∷ []) xs in omega arith

-- a sum over a list is one over its places
pub sum_places : {A : Type 0} (f : A → ℕ) (d : A) (xs : List A) → sum_by f xs ≡ sum_below (length xs) (λ k. f (get_or xs k d))
sum_places f d [] = refl
sum_places f d (x ∷ xs) = sum_cons f x xs ∙ ap (λ n. f x + n) (sum_places f d xs) ∙ sym (sum_front (length xs) (λ k. f (get_or (x ∷ xs) k d)))

pub sum_same : (n : ℕ) (f g : ℕ → ℕ) → ((k : ℕ) → f k ≡ g k) → sum_below n f ≡ sum_below n g
sum_same zero f g h = refl
sum_same (suc n) f g h = ap₂ (λ a b. a + b) (sum_same n f g h) (h n)
