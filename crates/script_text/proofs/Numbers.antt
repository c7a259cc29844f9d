-- Numbers in decimal.
use Rattle.std.proofs.Common.{◌≡◌, ℕ, zero, suc, ◌+◌, ◌-◌, ◌*◌, ◌<◌, ◌≤◌, true, List, [], ◌∷◌, length, get_or, take, drop, ap, sym, ◌∙◌, fold, arith, take-append-drop}
use Rattle.seg_words.proofs.Lemmas.{fold_more, fold-append, nat_tests}
use Rattle.seg_words.specs.Types.{list_all}
use Rattle.script_text.specs.Pieces.{value_of, with_digit, is_digit}

pub value_more : (xs : List ℕ) (i d : ℕ) → i < length xs → value_of (take (i + 1) xs) ≡ value_of (take i xs) * 10 + (get_or xs i d - 48)
value_more xs i d h = fold_more with_digit 0 xs i d h

value_grows : (xs : List ℕ) (n : ℕ) → n ≤ fold with_digit n xs
value_grows [] n = omega arith
value_grows (x ∷ xs) n = let r = value_grows xs (with_digit n x) in omega arith

-- what some first digits spell is no more than what all do
pub value_above : (xs : List ℕ) (i : ℕ) → value_of (take i xs) ≤ value_of xs
value_above xs i =
    let e : fold with_digit (value_of (take i xs)) (drop i xs) ≡ value_of xs = sym (fold-append with_digit 0 (take i xs) (drop i xs)) ∙ ap value_of (take-append-drop i xs) in
    let r = value_grows (drop i xs) (value_of (take i xs)) in
    omega (arith, e)

pub digit_at : (xs : List ℕ) (i d : ℕ) → list_all is_digit xs ≡ true → i < length xs → (48 ≤ get_or xs i d) × (get_or xs i d ≤ 57)
digit_at [] i d all lt = absurd (omega arith)
digit_at (x ∷ xs) zero d all lt = grind (arith, nat_tests)
digit_at (x ∷ xs) (suc i) d all lt = digit_at xs i d (grind (arith, nat_tests)) (omega arith)
