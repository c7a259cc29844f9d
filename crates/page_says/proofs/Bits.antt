-- The bit of one extent written anew tells of that extent, and leaves the others.
use Rattle.std.proofs.Common.{◌≡◌, ℕ, ◌+◌, ◌-◌, ◌*◌, ◌/◌, ◌%◌, ◌^◌, ◌<◌, ◌≤◌, Bool, true, false, cond, not, ◌&&◌, eqb, List, [], ◌∷◌, length, slice_index, slice_set, refl, sym, ap, ◌∙◌, inl, inr, arith}
use Rattle.std.specs.Prelude.{◌==◌}
use Rattle.std.specs.Int.{w8, bit_at}
use Rattle.std.proofs.lemmas.Bool.{cases_Bool, eqb-true, eqb-false, eq-eqb, cond-true, cond-false}
use Rattle.std.proofs.lemmas.List.{get_or-set_same, get_or-set_other, length-set}
use Rattle.std.proofs.lemmas.Nat.Bits.{bit_at_set_same, bit_at_set_other, bit_at_clear_same, bit_at_clear_other}
use Rattle.segment_blocks.specs.Spaces.{is_used, with_bit, with_extent}
use Rattle.redo_laws.specs.Among.{is_in}
use Rattle.page_set.specs.Spaces.{freed, AreCovered}

-- a bit as a test
abbrev bit_test : ℕ → ℕ → Bool
bit_test b k = bit_at b k == 1

same_bit : (b k : ℕ) (used : Bool) → k < 8 → bit_test (with_bit b k used) k ≡ used
same_bit b k true lt = ap (λ (n : ℕ). n == 1) (bit_at_set_same w8 b k lt)
same_bit b k false lt = ap (λ (n : ℕ). n == 1) (bit_at_clear_same w8 b k lt)

other_bit : (b k i : ℕ) (used : Bool) → k < 8 → i < 8 → (i ≡ k → ⊥) → bit_test (with_bit b k used) i ≡ bit_test b i
other_bit b k i true lt li ne = ap (λ (n : ℕ). n == 1) (bit_at_set_other w8 b k lt i ne)
other_bit b k i false lt li ne = ap (λ (n : ℕ). n == 1) (bit_at_clear_other w8 b k lt i li ne)

pub used_same : (bits : List ℕ) (x : ℕ) (used : Bool) → length bits ≡ 256 → x < 2043 → is_used (with_extent bits x used) x ≡ used
used_same bits x used n lt =
    let v : ℕ = with_bit (slice_index bits (x / 8)) (7 - x % 8) used in
    ap (λ (b : ℕ). bit_test b (7 - x % 8)) (get_or-set_same bits (x / 8) v 0 (omega (arith, n, lt))) ∙ same_bit (slice_index bits (x / 8)) (7 - x % 8) used (omega arith)

pub used_other : (bits : List ℕ) (x y : ℕ) (used : Bool) → length bits ≡ 256 → x < 2043 → (y ≡ x → ⊥) → is_used (with_extent bits x used) y ≡ is_used bits y
used_other bits x y used n lt ne =
    let v : ℕ = with_bit (slice_index bits (x / 8)) (7 - x % 8) used in
    elim (cases_Bool (eqb (y / 8) (x / 8))) [
      | inr f ↦ ap (λ (b : ℕ). bit_test b (7 - y % 8)) (get_or-set_other bits (x / 8) (y / 8) v 0 (eqb-false (y / 8) (x / 8) f))
      | inl e ↦
          let same : y / 8 ≡ x / 8 = eqb-true (y / 8) (x / 8) e in
          ap (λ (i : ℕ). bit_test (slice_index (slice_set bits (x / 8) v) i) (7 - y % 8)) same
          ∙ ap (λ (b : ℕ). bit_test b (7 - y % 8)) (get_or-set_same bits (x / 8) v 0 (omega (arith, n, lt)))
          ∙ other_bit (slice_index bits (x / 8)) (7 - x % 8) (7 - y % 8) used (omega arith) (omega arith) (λ k. ne (omega (arith, k, same)))
          ∙ ap (λ (i : ℕ). bit_test (slice_index bits i) (7 - y % 8)) (sym same)
    ]

pub extent_count : (bits : List ℕ) (x : ℕ) (used : Bool) → length (with_extent bits x used) ≡ length bits
extent_count bits x used = length-set bits (x / 8) (with_bit (slice_index bits (x / 8)) (7 - x % 8) used)

pub freed_count : (xs bits : List ℕ) → length (freed xs bits) ≡ length bits
freed_count [] bits = refl
freed_count (x ∷ xs) bits = freed_count xs (with_extent bits x false) ∙ extent_count bits x false

and_assoc : (a b c : Bool) → ((a && b) && c) ≡ (a && (b && c))
and_assoc true b c = refl
and_assoc false b c = refl

and_none : (a : Bool) → (a && false) ≡ false
and_none true = refl
and_none false = refl

and_all : (a : Bool) → (a && true) ≡ a
and_all true = refl
and_all false = refl

pub freed_used : (xs bits : List ℕ) (y : ℕ) → length bits ≡ 256 → AreCovered xs → is_used (freed xs bits) y ≡ (is_used bits y && not (is_in y xs))
freed_used [] bits y n few = sym (and_all (is_used bits y))
freed_used (x ∷ xs) bits y n few =
    freed_used xs (with_extent bits x false) y (extent_count bits x false ∙ n) few.1
    ∙ elim (cases_Bool (eqb x y)) [
      | inl e ↦ rw e (let same : x ≡ y = eqb-true x y e in ap (λ (b : Bool). b && not (is_in y xs)) (ap (is_used (with_extent bits x false)) (sym same) ∙ used_same bits x false n few.0) ∙ sym (and_none (is_used bits y)))
      | inr f ↦ rw f (ap (λ (b : Bool). b && not (is_in y xs)) (used_other bits x y false n few.0 (λ k. eqb-false x y f (sym k))))
    ]
