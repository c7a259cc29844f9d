-- What is found is spelled so.
use Rattle.std.proofs.Common.{◌≡◌, ◌≢◌, ◌⊎◌, inl, inr, ℕ, zero, suc, ◌+◌, ◌^◌, ◌<◌, ◌≤◌, Bool, true, false, List, [], ◌∷◌, ◌++◌, length, take, drop, get_or, refl, sym, ◌∙◌, ap, arith, ◌==◌, nat_lt, if◌then◌else◌, Option, Some, None, Ok, w32, append_assoc, take-append-drop, length-take, length-drop, drop-drop, get_or-take, get_or-drop, ltb-true, eq-eqb, eqb-true}
use Rattle.seg_words.specs.Types.{to_be_bytes, number_in}
use Rattle.seg_words.proofs.Lemmas.{drop_more, be_bytes_4, cases_lt}
use Rattle.log_frame.specs.Types.{framed, size_found, Walks, SpelledFrom, GROUP_HEAD_SIZE}

if_inside : {A : Type 0} (b : Bool) (x y r : A) → (if b then x else y) ≡ r → ((b ≡ true) × (x ≡ r)) ⊎ ((b ≡ false) × (y ≡ r))
if_inside true x y r h = inl (refl, h)
if_inside false x y r h = inr (refl, h)

module _ (bytes : List ℕ) (at : ℕ) where
  -- a payload of that length is framed
  framed_inside : (size : ℕ) (r : Option ℕ) → framed bytes at size ≡ Ok r → (r ≡ Some size) × (size ≢ 0) × (at + GROUP_HEAD_SIZE + size < length bytes)
  framed_inside size r found = elim (if_inside (nat_lt (length bytes) (at + GROUP_HEAD_SIZE)) _ _ _ found) [
    | inl cut ↦ absurd (cc (cut.1))
    | inr whole ↦ elim (if_inside (size == 0) _ _ _ whole.1) [
      | inl none ↦ absurd (cc (none.1))
      | inr some ↦ elim (if_inside (nat_lt (at + GROUP_HEAD_SIZE + size) (length bytes)) _ _ _ some.1) [
        | inl fits ↦ (cc (fits.1), (λ zero. absurd (cc (some.0, eq-eqb size 0 zero))), ltb-true (at + GROUP_HEAD_SIZE + size) (length bytes) fits.0)
        | inr over ↦ absurd (cc (over.1))
      ]
    ]
  ]

  -- at a closed gate
  pub closed_inside : size_found bytes at ≡ Ok None → (at < length bytes) × (get_or bytes at 0 ≢ 1)
  closed_inside found = elim (if_inside (nat_lt at (length bytes)) _ _ _ found) [
    | inl here ↦ elim (if_inside (get_or bytes at 0 == 1) _ _ _ here.1) [
      | inl one ↦ (let in_frame = framed_inside (number_in w32 bytes (at + 1)) None one.1 in absurd (cc (in_frame.0)))
      | inr shut ↦ (ltb-true at (length bytes) here.0, λ one. absurd (cc (shut.0, eq-eqb (get_or bytes at 0) 1 one)))
    ]
    | inr past ↦ absurd (cc (past.1))
  ]

  -- at an open one
  pub open_inside : (n : ℕ) → size_found bytes at ≡ Ok (Some n) → (get_or bytes at 0 ≡ 1) × (at + GROUP_HEAD_SIZE + n < length bytes) × (number_in w32 bytes (at + 1) ≡ n) × (1 ≤ n)
  open_inside n found = elim (if_inside (nat_lt at (length bytes)) _ _ _ found) [
    | inl here ↦ elim (if_inside (get_or bytes at 0 == 1) _ _ _ here.1) [
      | inl one ↦ (
          let number = number_in w32 bytes (at + 1) in
          let in_frame = framed_inside number (Some n) one.1 in
          let same : n ≡ number = cc (in_frame.0) in
          (eqb-true (get_or bytes at 0) 1 one.0, omega (arith, same, in_frame.2), sym same, omega (arith, same, in_frame.1))
          )
      | inr shut ↦ absurd (cc (shut.1))
    ]
    | inr past ↦ absurd (cc (past.1))
  ]

-- the groups of a walk are spelled there
pub spelled_from : (groups : List (List ℕ)) (bytes : List ℕ) (at end : ℕ) → ((i : ℕ) → get_or bytes i 0 < 256) → Walks bytes at groups (Ok end) → SpelledFrom bytes at groups
spelled_from [] bytes at end are walks =
    let here = closed_inside bytes at walks.0 in
    record { payloads = tt; gate = get_or bytes at 0; shut = here.1; rest = drop (at + 1) bytes; is = drop_more bytes at 0 here.0 }
spelled_from (g ∷ groups) bytes at end are walks =
    let n = length g in
    let here = open_inside bytes at n walks.0 in
    let later = spelled_from groups bytes (at + GROUP_HEAD_SIZE + n) end are walks.2 in
    let behind = drop (at + 1) bytes in
    let four : length (take 4 behind) ≡ 4 = omega (arith, length-take 4 behind, length-drop (at + 1) bytes, here.1) in
    let byte : (i : ℕ) → get_or (take 4 behind) i 0 < 256 = λ i. elim (cases_lt i 4) [
      | inl lt ↦ omega (arith, are (at + 1 + i), get_or-take 4 behind i 0 lt, get_or-drop (at + 1) bytes i 0)
      | inr ge ↦ omega (arith, get_or_past (take 4 behind) i (omega (arith, four, ge)))
    ] in
    let size : to_be_bytes w32 n ≡ take 4 behind = be_bytes_4 (take 4 behind) n four byte (sym here.2) in
    let fits : n < 2 ^ 32 = omega (arith, here.2, byte 0, byte 1, byte 2, byte 3) in
    let payload : take n (drop 4 behind) ≡ g = ap (λ (l : List ℕ). take n l) (drop-drop 4 (at + 1) bytes ∙ ap (λ (i : ℕ). drop i bytes) (omega arith)) ∙ walks.1 in
    let next : drop n (drop 4 behind) ≡ drop (at + GROUP_HEAD_SIZE + n) bytes = ap (drop n) (drop-drop 4 (at + 1) bytes) ∙ drop-drop n _ bytes ∙ ap (λ (i : ℕ). drop i bytes) (omega arith) in
    record {
      payloads = (record { some = here.3; fits = fits }, later.payloads);
      gate = later.gate;
      shut = later.shut;
      rest = later.rest;
      is =
          drop_more bytes at 0 (omega (arith, here.1)) ∙ ap (λ (b : ℕ). b ∷ behind) here.0
          ∙ ap (λ (l : List ℕ). 1 ∷ l) (sym (take-append-drop 4 behind) ∙ ap (λ (l : List ℕ). l ++ drop 4 behind) (sym size)
          ∙ ap (λ (l : List ℕ). to_be_bytes w32 n ++ l) (sym (take-append-drop n (drop 4 behind)) ∙ ap (λ (l : List ℕ). l ++ drop n (drop 4 behind)) payload ∙ ap (λ (l : List ℕ). g ++ l) (next ∙ later.is)))
          ∙ simp append_assoc;
    }
  where
    get_or_past : (l : List ℕ) (i : ℕ) → length l ≤ i → get_or l i 0 ≡ 0
    get_or_past [] i le = refl
    get_or_past (x ∷ l) zero le = absurd (omega arith)
    get_or_past (x ∷ l) (suc i) le = get_or_past l i (omega arith)
