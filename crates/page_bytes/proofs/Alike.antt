-- Runs of bytes that begin alike to their end are one.
use Rattle.std.proofs.Common.{◌≡◌, ℕ, suc, ◌+◌, ◌<◌, ◌≤◌, true, eqb, List, [], ◌∷◌, length, inl, inr, refl, sym, ap, ◌∙◌, arith, eqb-true}
use Rattle.seg_words.proofs.Lemmas.{common_prefix_len, cases_Bool, nat_tests}

pub all_alike : (a b : List ℕ) → length a ≡ length b → length a ≤ common_prefix_len eqb a b → a ≡ b
all_alike [] [] e h = refl
all_alike [] (y ∷ ys) e h = absurd (omega arith)
all_alike (x ∷ xs) [] e h = absurd (omega arith)
all_alike (x ∷ xs) (y ∷ ys) e h = elim (cases_Bool (eqb x y)) [
  | inl t ↦ (let same : x ≡ y = eqb-true x y t in let k : suc (length xs) ≤ 1 + common_prefix_len eqb xs ys = rw t at h in rw (same, all_alike xs ys (omega arith) (omega arith)) refl)
  | inr f ↦ absurd (let k : suc (length xs) ≤ 0 = rw f at h in omega arith)
]

equal : (n : ℕ) → eqb n n ≡ true
equal n = grind (arith, nat_tests)

pub same_alike : (a : List ℕ) → common_prefix_len eqb a a ≡ length a
same_alike [] = refl
same_alike (x ∷ xs) = rw (equal x) (omega (arith, same_alike xs))

-- a page that differs from the spelling of what it reads as spells no value that is read again
pub spells_none : {P : Type 0} (spelling : P → List ℕ) (meaning : List ℕ → P) (bytes : List ℕ) (read p : P) (at : ℕ) → meaning (spelling p) ≡ p → bytes ≡ spelling p → read ≡ meaning bytes
    → at ≡ common_prefix_len eqb bytes (spelling read) → at < length bytes → ⊥
spells_none {P = P} spelling meaning bytes read p at again spells is e lt =
    let same : spelling read ≡ bytes = ap spelling (is ∙ ap meaning spells ∙ again) ∙ sym spells in
    let whole : at ≡ length bytes = e ∙ ap (λ (s : List ℕ). common_prefix_len eqb bytes s) same ∙ same_alike bytes in
    omega arith
