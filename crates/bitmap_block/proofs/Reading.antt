-- One more code is read.
use Rattle.std.proofs.Common.{◌≡◌, ℕ, zero, suc, ◌+◌, ◌<◌, ◌≤◌, min, List, [], ◌∷◌, ◌++◌, length, map, take, set, get_or, refl, sym, ap, ◌∙◌, subst, arith, replicate, take_all}
use Rattle.seg_words.proofs.Lemmas.{take_more, take_more_set, map-append, get_or-replicate, length-replicate}
use Rattle.bitmap_block.specs.Types.{GREATEST_CODE, codes_in, AreCodes, HasCodes}

-- a loop that has read the first i codes
pub record HasRead (bytes codes : List ℕ) (i : ℕ) : Type 0 where
  pub so_far : take i codes ≡ codes_in i bytes

pub none_read : (bytes codes : List ℕ) → HasRead bytes codes 0
none_read bytes codes = record { so_far = refl }

pub read_next : (bytes codes : List ℕ) (i b : ℕ) → HasRead bytes codes i → i < length codes → i < length bytes → b ≡ min (get_or bytes i 0) GREATEST_CODE → HasRead bytes (set codes i b) (i + 1)
read_next bytes codes i b had lt within is = record {
  so_far = take_more_set codes i b lt ∙ ap (λ (xs : List ℕ). xs ++ b ∷ []) had.so_far ∙ ap (λ (x : ℕ). codes_in i bytes ++ x ∷ []) is
      ∙ sym (ap (map (λ x. min x GREATEST_CODE)) (take_more bytes i 0 within) ∙ map-append (λ x. min x GREATEST_CODE) (take i bytes) (get_or bytes i 0 ∷ []));
}

are_codes : (xs : List ℕ) → AreCodes (map (λ b. min b GREATEST_CODE) xs)
are_codes [] i lt = absurd (omega (arith, lt))
are_codes (x ∷ xs) zero lt = omega arith
are_codes (x ∷ xs) (suc i) lt = are_codes xs i (omega (arith, lt))

all_so_far : (bytes codes : List ℕ) (i : ℕ) → HasRead bytes codes i → length codes ≤ i → codes ≡ codes_in i bytes
all_so_far bytes codes i had le = sym (take_all i codes le) ∙ had.so_far

pub all_read : (bytes codes : List ℕ) (i n : ℕ) → HasRead bytes codes i → length codes ≤ i → i ≤ n → n ≡ length codes → (codes ≡ codes_in n bytes) × AreCodes codes
all_read bytes codes i n had le top len =
    let e : i ≡ n = omega (arith, le, top, len) in
    let is : codes ≡ codes_in n bytes = all_so_far bytes codes i had le ∙ ap (λ (m : ℕ). codes_in m bytes) e in
    (is, subst AreCodes (sym is) (are_codes (take n bytes)))

-- a block without a code
none_are : (n : ℕ) → AreCodes (replicate n 0)
none_are n i lt = rw (get_or-replicate {A = ℕ} n i 0 0 (omega (arith, lt, length-replicate {A = ℕ} n 0))) (omega arith)

pub no_codes : (n : ℕ) → HasCodes n (replicate n 0)
no_codes n = record { count = length-replicate {A = ℕ} n 0; each = none_are n }
