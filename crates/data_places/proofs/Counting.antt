-- Counts of data blocks.
use Rattle.std.proofs.Common.{◌≡◌, ℕ, zero, suc, ◌+◌, ◌*◌, ◌<◌, ◌≤◌, true, inl, inr, cond, eqb, ◌||◌, refl, ap, arith}
use Rattle.seg_words.proofs.Lemmas.{cases_lt, cond_both, nat_tests}
use Rattle.seg_words.specs.Types.{Shape, is_shape, head_blocks, EXTENTS_OF_L2, MOST_EXTENT_BLOCKS}
use Rattle.redo_laws.proofs.numbers.Bounds.{limits}
use Rattle.data_places.specs.Places.{data_count, head_count}

pub count_bound : (sh : Shape) (n : ℕ) → is_shape sh ≡ true → data_count sh n ≤ MOST_EXTENT_BLOCKS * n
count_bound sh zero s = omega arith
count_bound sh (suc n) s = let k = count_bound sh n s in let e = (limits sh s).extent_to in omega (arith, k, e)

at_most_four : (n : ℕ) → head_blocks n ≤ 4
at_most_four n = cond_both (eqb n 0) 4 (cond (eqb n EXTENTS_OF_L2 || eqb n (2 * EXTENTS_OF_L2)) 2 1) (λ k. k ≤ 4) (λ _. omega arith)
    (λ _. cond_both (eqb n EXTENTS_OF_L2 || eqb n (2 * EXTENTS_OF_L2)) 2 1 (λ k. k ≤ 4) (λ _. omega arith) (λ _. omega arith))

-- what isn't data is bitmaps and the header
pub count_all : (sh : Shape) (n : ℕ) → is_shape sh ≡ true → data_count sh n + head_count n ≡ n * sh.extent
count_all sh zero s = omega arith
count_all sh (suc n) s = let k = count_all sh n s in let e = (limits sh s).extent_from in omega (arith, k, e, at_most_four n)

plain_head : (n : ℕ) → 0 < n → (n ≡ EXTENTS_OF_L2 → ⊥) → (n ≡ 2 * EXTENTS_OF_L2 → ⊥) → head_blocks n ≡ 1
plain_head n p one two = grind (arith, nat_tests)

-- one L2 block has the bits of so many extents
pub heads_first : (n : ℕ) → 0 < n → n ≤ EXTENTS_OF_L2 → head_count n ≡ n + 3
heads_first zero p l = absurd (omega (arith, p))
heads_first (suc zero) p l = refl
heads_first (suc (suc n)) p l =
    let before = heads_first (suc n) (omega arith) (omega (arith, l)) in
    omega (arith, before, plain_head (suc n) (omega arith) (λ e. omega (arith, e, l)) (λ e. omega (arith, e, l)))

pub heads_second : (n : ℕ) → EXTENTS_OF_L2 < n → n ≤ 2 * EXTENTS_OF_L2 → head_count n ≡ n + 4
heads_second zero f l = absurd (omega (arith, f))
heads_second (suc n) f l = elim (cases_lt EXTENTS_OF_L2 n) [
  | inl more ↦ omega (arith, heads_second n more (omega (arith, l)), plain_head n (omega (arith, more)) (λ e. omega (arith, e, more)) (λ e. omega (arith, e, l)))
  | inr last ↦ (let is : n ≡ EXTENTS_OF_L2 = omega (arith, f, last) in
      let head : head_blocks n ≡ 2 = ap head_blocks is in
      omega (arith, heads_first n (omega (arith, is)) last, head))
]

pub heads_third : (n : ℕ) → 2 * EXTENTS_OF_L2 < n → head_count n ≡ n + 5
heads_third zero f = absurd (omega (arith, f))
heads_third (suc n) f = elim (cases_lt (2 * EXTENTS_OF_L2) n) [
  | inl more ↦ omega (arith, heads_third n more, plain_head n (omega (arith, more)) (λ e. omega (arith, e, more)) (λ e. omega (arith, e, more)))
  | inr last ↦ (let is : n ≡ 2 * EXTENTS_OF_L2 = omega (arith, f, last) in
      let head : head_blocks n ≡ 2 = ap head_blocks is in
      omega (arith, heads_second n (omega (arith, is)) last, head))
]
