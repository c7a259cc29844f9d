-- The head of the area as it is written.
use Rattle.std.proofs.Common.{◌≡◌, ℕ, zero, suc, ◌+◌, ◌*◌, ◌<◌, ◌≤◌, List, [], ◌∷◌, ◌++◌, length, take, get_or, refl, sym, ◌∙◌, ap, subst, arith, flat_map, append_assoc, append-nil, take_all}
use Rattle.page_bytes.specs.Types.{IsFront, page_of}
use Rattle.page_store.specs.Types.{dba_bytes, RawPage, NUMBERS_AT}

one_taken : (batch : List RawPage) (i : ℕ) (p : RawPage) → i < length batch → p ≡ get_or batch i p → flat_map dba_bytes (take (suc i) batch) ≡ flat_map dba_bytes (take i batch) ++ dba_bytes p
one_taken [] i p lt is = absurd (omega arith)
one_taken (q ∷ batch) zero p lt is = append-nil (dba_bytes q) ∙ ap dba_bytes (sym is)
one_taken (q ∷ batch) (suc i) p lt is = ap (λ (l : List ℕ). dba_bytes q ++ l) (one_taken batch i p (omega arith) is) ∙ sym (append_assoc (dba_bytes q) (flat_map dba_bytes (take i batch)) (dba_bytes p))

length_taken : (batch : List RawPage) (i : ℕ) → i ≤ length batch → length (flat_map dba_bytes (take i batch)) ≡ 4 * i
length_taken batch zero le = refl
length_taken [] (suc i) le = absurd (omega arith)
length_taken (q ∷ batch) (suc i) le = omega (arith, length_taken batch i (omega arith))

pub next_place : (batch : List RawPage) (head : List ℕ) (i at : ℕ) → i ≤ length batch → IsFront head (0 ∷ length batch ∷ flat_map dba_bytes (take i batch)) at → at ≡ NUMBERS_AT + 4 * i
next_place batch head i at le front = omega (arith, front.place, length_taken batch i le)

pub next_front : (batch : List RawPage) (i : ℕ) (p : RawPage) (bytes head : List ℕ) (at : ℕ) → i < length batch → p ≡ get_or batch i p → bytes ≡ dba_bytes p → IsFront head ((0 ∷ length batch ∷ flat_map dba_bytes (take i batch)) ++ bytes) at
    → IsFront head (0 ∷ length batch ∷ flat_map dba_bytes (take (i + 1) batch)) at
next_front batch i p bytes head at lt is same front =
    let n : i + 1 ≡ suc i = omega arith in
    let here : (flat_map dba_bytes (take i batch)) ++ bytes ≡ flat_map dba_bytes (take (i + 1) batch) = ap (λ (l : List ℕ). flat_map dba_bytes (take i batch) ++ l) same ∙ sym (one_taken batch i p lt is) ∙ ap (λ (k : ℕ). flat_map dba_bytes (take k batch)) (sym n) in
    subst (λ (l : List ℕ). IsFront head (0 ∷ length batch ∷ l) at) here front

pub whole_front : (batch : List RawPage) (i : ℕ) (head : List ℕ) (at : ℕ) → length batch ≤ i → IsFront head (0 ∷ length batch ∷ flat_map dba_bytes (take i batch)) at → head ≡ page_of (0 ∷ length batch ∷ flat_map dba_bytes batch)
whole_front batch i head at le front = front.bytes ∙ ap (λ (l : List RawPage). page_of (0 ∷ length batch ∷ flat_map dba_bytes l)) (take_all i batch le)
