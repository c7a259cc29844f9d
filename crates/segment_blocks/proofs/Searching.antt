-- The least free extent.
use Rattle.std.proofs.Common.{◌≡◌, ℕ, ◌+◌, ◌<◌, ◌≤◌, Bool, true, false, not, List, refl, sym, ap, ◌∙◌, subst, inl, inr, arith, replicate, ◌/◌, ◌*◌, take, length, get_or, set, length-take, length-set, get_or-set_same}
use Rattle.std.proofs.Math.Nat.{eq-or-lt_of_le}
use Rattle.segment_blocks.specs.Types.{is_used, AreUsed, IsLeastFree, HasBits, bits_in}

pub none_free : (bits : List ℕ) → AreUsed bits 0
none_free bits x lt = absurd (omega (arith, lt))

used_of_not : (b : Bool) → not b ≡ false → b ≡ true
used_of_not true h = refl
used_of_not false h = absurd cc

free_of_not : (b : Bool) → not b ≡ true → b ≡ false
free_of_not true h = absurd cc
free_of_not false h = refl

pub next_used : (bits : List ℕ) (n : ℕ) → AreUsed bits n → not (is_used bits n) ≡ false → AreUsed bits (n + 1)
next_used bits n before h x lt =
    elim (eq-or-lt_of_le {n = x} {m = n} (omega (arith, lt))) [
      | inl same ↦ subst (λ (y : ℕ). is_used bits y ≡ true) (sym same) (used_of_not (is_used bits n) h)
      | inr less ↦ before x less
    ]

pub found_free : (bits : List ℕ) (n x : ℕ) → AreUsed bits x → x < n → not (is_used bits x) ≡ true → IsLeastFree bits n x
found_free bits n x before lt h = record { within = lt; free = free_of_not (is_used bits x) h; before = before }

pub no_bits : HasBits (replicate 256 0)
no_bits = record { count = refl; spare = refl }

-- the spare bits are cleared
pub cleared : (bytes bits : List ℕ) (n b : ℕ) → bits ≡ take 256 bytes → 256 ≤ length bytes → n ≡ get_or bits 255 0 → b ≡ n / 32 * 32 → set bits 255 b ≡ bits_in bytes
cleared bytes bits n b is long read over = rw (over, read, is) refl

rounded_again : (n : ℕ) → n / 32 * 32 / 32 * 32 ≡ n / 32 * 32
rounded_again n = omega arith

pub bits_read : (bytes : List ℕ) → 256 ≤ length bytes → HasBits (bits_in bytes)
bits_read bytes long =
    let front : length (take 256 bytes) ≡ 256 = omega (arith, length-take 256 bytes) in
    let last : get_or (bits_in bytes) 255 0 ≡ get_or (take 256 bytes) 255 0 / 32 * 32 = get_or-set_same (take 256 bytes) 255 (get_or (take 256 bytes) 255 0 / 32 * 32) 0 (omega (arith, front)) in
    record {
      count = length-set (take 256 bytes) 255 (get_or (take 256 bytes) 255 0 / 32 * 32) ∙ front;
      spare = ap (λ (n : ℕ). n / 32 * 32) last ∙ rounded_again (get_or (take 256 bytes) 255 0) ∙ sym last;
    }
