-- The bit of one extent is written anew, and the spare bits stay none.
use Rattle.std.proofs.Common.{◌≡◌, ℕ, zero, suc, ◌-◌, ◌*◌, ◌/◌, ◌%◌, ◌^◌, ◌<◌, ◌≤◌, Bool, true, false, List, slice_index, slice_set, refl, sym, ap, ◌∙◌, inl, inr, arith}
use Rattle.std.proofs.Math.Nat.{eq-or-lt_of_le}
use Rattle.std.specs.Int.{w8, bit_not}
use Rattle.std.specs.Int.Bits.{bit_and, bit_or, or_add_and}
use Rattle.std.proofs.lemmas.Nat.{and_assoc, and_comm, and_le_l}
use Rattle.std.proofs.lemmas.Nat.Bits.{and_high, and_pow}
use Rattle.std.proofs.lemmas.List.{length-set, get_or-set_same, get_or-set_other}
use Rattle.segment_blocks.specs.Spaces.{HasBits, with_bit}

-- a number with no bit below the fifth is itself under this mask, and no other
masked : (b : ℕ) → b < 256 → b / 32 * 32 ≡ b → bit_and b 224 ≡ b
masked b lt spare =
    let e : bit_and b 224 ≡ b / 32 % 8 * 32 = and_high b 3 5 in
    e ∙ omega (arith, lt, spare)

masked_again : (b : ℕ) → b < 256 → bit_and b 224 ≡ b → b / 32 * 32 ≡ b
masked_again b lt same =
    let e : bit_and b 224 ≡ b / 32 % 8 * 32 = and_high b 3 5 in
    omega (arith, lt, same, e)

and_spare : (b m : ℕ) → b < 256 → b / 32 * 32 ≡ b → bit_and b m / 32 * 32 ≡ bit_and b m
and_spare b m lt spare =
    let same : bit_and (bit_and b m) 224 ≡ bit_and b m
    = and_assoc 224 b m ∙ ap (bit_and b) (and_comm m 224) ∙ sym (and_assoc m b 224) ∙ ap (λ (z : ℕ). bit_and z m) (masked b lt spare) in
    masked_again (bit_and b m) (omega (arith, lt, and_le_l b m)) same

or_spare : (b c : ℕ) (n : ℕ) → c ≡ n * 32 → b / 32 * 32 ≡ b → (m : ℕ) → bit_and b c ≡ m * 32 → bit_or b c / 32 * 32 ≡ bit_or b c
or_spare b c n is spare m both = omega (arith, is, spare, both, or_add_and b c)

bit_spare : (y b : ℕ) (used : Bool) → y < 3 → b < 256 → b / 32 * 32 ≡ b → with_bit b (7 - y) used / 32 * 32 ≡ with_bit b (7 - y) used
bit_spare zero b true le lt spare = let e : bit_and b 128 ≡ b / 128 % 2 * 128 = and_pow b 7 in or_spare b 128 4 refl spare (b / 128 % 2 * 4) (omega (arith, e))
bit_spare (suc zero) b true le lt spare = let e : bit_and b 64 ≡ b / 64 % 2 * 64 = and_pow b 6 in or_spare b 64 2 refl spare (b / 64 % 2 * 2) (omega (arith, e))
bit_spare (suc (suc zero)) b true le lt spare = let e : bit_and b 32 ≡ b / 32 % 2 * 32 = and_pow b 5 in or_spare b 32 1 refl spare (b / 32 % 2) (omega (arith, e))
bit_spare (suc (suc (suc y))) b true le lt spare = absurd (omega (arith, le))
bit_spare y b false le lt spare = and_spare b (bit_not w8 (1 * 2 ^ (7 - y) % 2 ^ 8)) lt spare

set_spare : (bits : List ℕ) (at v : ℕ) → at ≤ 255 → HasBits bits → (at ≡ 255 → v / 32 * 32 ≡ v) → HasBits (slice_set bits at v)
set_spare bits at v le has spare = record { count = length-set bits at v ∙ has.count; spare = elim (eq-or-lt_of_le {n = at} {m = 255} le) [ inl same ↦ last same | inr less ↦ kept (λ (same : at ≡ 255). absurd (omega (arith, less, same))) ] }
  where
    last : at ≡ 255 → slice_index (slice_set bits at v) 255 / 32 * 32 ≡ slice_index (slice_set bits at v) 255
    last same = rw same (let e : slice_index (slice_set bits 255 v) 255 ≡ v = get_or-set_same bits 255 v 0 (omega (arith, has.count)) in ap (λ (n : ℕ). n / 32 * 32) e ∙ spare same ∙ sym e)

    kept : (at ≡ 255 → ⊥) → slice_index (slice_set bits at v) 255 / 32 * 32 ≡ slice_index (slice_set bits at v) 255
    kept other = let e : slice_index (slice_set bits at v) 255 ≡ slice_index bits 255 = get_or-set_other bits at 255 v 0 (λ (h : 255 ≡ at). other (sym h)) in ap (λ (n : ℕ). n / 32 * 32) e ∙ has.spare ∙ sym e

pub has_bits : (bits : List ℕ) (x v : ℕ) (used : Bool) → HasBits bits → x < 2043 → slice_index bits (x / 8) < 256 → v ≡ with_bit (slice_index bits (x / 8)) (7 - x % 8) used → HasBits (slice_set bits (x / 8) v)
has_bits bits x v used has lt byte is =
    let b : ℕ = slice_index bits (x / 8) in
    set_spare bits (x / 8) v (omega (arith, lt)) has
    (λ (at : x / 8 ≡ 255).
    let last : b ≡ slice_index bits 255 = ap (slice_index bits) at in
    let spare : b / 32 * 32 ≡ b = ap (λ (n : ℕ). n / 32 * 32) last ∙ has.spare ∙ sym last in
    ap (λ (n : ℕ). n / 32 * 32) is ∙ bit_spare (x % 8) b used (omega (arith, at, lt)) byte spare ∙ sym is)
