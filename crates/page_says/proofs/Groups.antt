-- The groups of 300 extents that the second levels cover, and which records name the second level of a group.
use Rattle.std.proofs.Common.{◌≡◌, ◌⊎◌, ℕ, ◌+◌, ◌*◌, ◌/◌, ◌%◌, ◌<◌, ◌≤◌, true, false, eqb, ltb, ◌&&◌, List, Option, Some, None, refl, sym, ◌∙◌, ap, arith, inl, inr, true≢false, eq-eqb, ltb-true, ltb-false}
use Rattle.seg_words.specs.Types.{MOST_EXTENTS, EXTENTS_OF_L2}
use Rattle.seg_words.proofs.Lemmas.{cases_Bool, cond-true, cond-false, and_from}
use Rattle.seg_base.specs.declared.shape.Shape.{Shape}
use Rattle.seg_base.specs.Places.{first_block, is_shape}
use Rattle.redo_record.specs.declared.record.Record.{Record}
use Rattle.redo_model.specs.Segments.{Extent, extents_of, extent_at, block_in, group_start, l2_of}
use Rattle.redo_model.specs.Lawful.{AreAllowed}
use Rattle.redo_laws.proofs.numbers.Bounds.{limits}
use Rattle.space_laws.proofs.ExtentsLaw.{same_place}
use Rattle.sort_laws.proofs.SortsLaw.{has_number}

group_cases : (n : ℕ) → ((group_start n ≡ 0) × (n < EXTENTS_OF_L2)) ⊎ (((group_start n ≡ EXTENTS_OF_L2) × (EXTENTS_OF_L2 ≤ n) × (n < (2 * EXTENTS_OF_L2))) ⊎ ((group_start n ≡ (2 * EXTENTS_OF_L2)) × ((2 * EXTENTS_OF_L2) ≤ n)))
group_cases n = elim (cases_Bool (ltb n EXTENTS_OF_L2)) [
  | inl y ↦ inl (cond-true _ _ _ y, ltb-true n EXTENTS_OF_L2 y)
  | inr f ↦ inr (elim (cases_Bool (ltb n (2 * EXTENTS_OF_L2))) [
    | inl y ↦ inl (cond-false _ _ _ f ∙ cond-true _ _ _ y, ltb-false n EXTENTS_OF_L2 f, ltb-true n (2 * EXTENTS_OF_L2) y)
    | inr g ↦ inr (cond-false _ _ _ f ∙ cond-false _ _ _ g, ltb-false n (2 * EXTENTS_OF_L2) g)
  ])
]

-- the first index of a group
pub group_first : (i : ℕ) → group_start i ≡ i → (i ≡ 0) ⊎ ((i ≡ EXTENTS_OF_L2) ⊎ (i ≡ (2 * EXTENTS_OF_L2)))
group_first i g = elim (group_cases i) [
  | inl a ↦ inl (sym g ∙ a.0)
  | inr w ↦ inr (elim w [ inl a ↦ inl (sym g ∙ a.0) | inr a ↦ inr (sym g ∙ a.0) ])
]

pub group_of : (i j : ℕ) → group_start i ≡ i → j < EXTENTS_OF_L2 → group_start (i + j) ≡ i
group_of i j g lt = elim (group_first i g) [
  | inl a ↦ elim (group_cases (i + j)) [
    | inl b ↦ b.0 ∙ sym a
    | inr w ↦ elim w [ inl b ↦ (let x = b.1 in absurd (omega (arith, a, x, lt))) | inr b ↦ (let x = b.1 in absurd (omega (arith, a, x, lt))) ]
  ]
  | inr v ↦ elim v [
    | inl a ↦ elim (group_cases (i + j)) [
      | inl b ↦ (let x = b.1 in absurd (omega (arith, a, x)))
      | inr w ↦ elim w [ inl b ↦ b.0 ∙ sym a | inr b ↦ (let x = b.1 in absurd (omega (arith, a, x, lt))) ]
    ]
    | inr a ↦ elim (group_cases (i + j)) [
      | inl b ↦ (let x = b.1 in absurd (omega (arith, a, x)))
      | inr w ↦ elim w [ inl b ↦ (let x = b.2 in absurd (omega (arith, a, x))) | inr b ↦ b.0 ∙ sym a ]
    ]
  ]
]

pub group_index : (n i : ℕ) → n < MOST_EXTENTS → group_start n ≡ i → i + n % EXTENTS_OF_L2 ≡ n
group_index n i lt g = elim (group_cases n) [
  | inl a ↦ (let z : i ≡ 0 = sym g ∙ a.0 in let x = a.1 in omega (arith, z, x))
  | inr w ↦ elim w [
    | inl a ↦ (let z : i ≡ EXTENTS_OF_L2 = sym g ∙ a.0 in let x = a.1 in let y = a.2 in omega (arith, z, x, y))
    | inr a ↦ (let z : i ≡ (2 * EXTENTS_OF_L2) = sym g ∙ a.0 in let x = a.1 in omega (arith, z, x, lt))
  ]
]

pub group_number : (n : ℕ) → n < MOST_EXTENTS → group_start n ≡ EXTENTS_OF_L2 * (n / EXTENTS_OF_L2)
group_number n lt = elim (group_cases n) [
  | inl a ↦ a.0 ∙ (let x = a.1 in omega (arith, x))
  | inr w ↦ elim w [
    | inl a ↦ a.0 ∙ (let x = a.1 in let y = a.2 in omega (arith, x, y))
    | inr a ↦ a.0 ∙ (let x = a.1 in omega (arith, x, lt))
  ]
]

-- the second level that a record names for an extent is that of the extent's group
pub l2_is : (sh : Shape) (R : List Record) (obj index l2 o i : ℕ) (e : Extent) → l2 ≡ l2_of sh (extents_of R obj) index → obj ≡ o → group_start index ≡ i → extent_at (extents_of R o) i ≡ Some e → l2 ≡ first_block sh e.number + 1
l2_is sh R obj index l2 o i e is same g at =
    is ∙ ap (λ (p : ℕ). block_in sh (extent_at (extents_of R p) (group_start index)) 1) same ∙ ap (λ (k : ℕ). block_in sh (extent_at (extents_of R o) k) 1) g ∙ ap (λ (x : Option Extent). block_in sh x 1) at

-- of extents of tables, one and the same second block is that of one extent
pub one_second : (sh : Shape) (R : List Record) (o i p j d : ℕ) (e f : Extent) → is_shape sh ≡ true → AreAllowed sh R → extent_at (extents_of R o) i ≡ Some e → extent_at (extents_of R p) j ≡ Some f
    → d ≡ first_block sh e.number + 1 → d ≡ first_block sh f.number + 1 → (o ≡ p) × (i ≡ j)
one_second sh R o i p j d e f s h x y a b =
    let w = (limits sh s).extent_from in
    let z = same_place sh R o p i j d e f h (has_number sh R o i e h x) (has_number sh R p j f h y) x y (omega (arith, a)) (omega (arith, a, w)) (omega (arith, b)) (omega (arith, b, w)) in
    (z.0, z.1)

-- and no other
pub l2_not : (sh : Shape) (R : List Record) (obj index l2 o i d : ℕ) (e : Extent) → is_shape sh ≡ true → AreAllowed sh R → l2 ≡ l2_of sh (extents_of R obj) index → (eqb obj o && eqb (group_start index) i) ≡ false
    → extent_at (extents_of R o) i ≡ Some e → d ≡ first_block sh e.number + 1 → d ≡ l2 → ⊥
l2_not sh R obj index l2 o i d e s h is f at place same = go (extent_at (extents_of R obj) (group_start index)) refl
  where
    go : (x : Option Extent) → extent_at (extents_of R obj) (group_start index) ≡ x → ⊥
    go None n = (let z : l2 ≡ 0 = is ∙ ap (λ (x : Option Extent). block_in sh x 1) n in omega (arith, z, place, same))
    go (Some g) n =
        let z = one_second sh R obj (group_start index) o i d g e s h n at (same ∙ is ∙ ap (λ (x : Option Extent). block_in sh x 1) n) place in
        true≢false (sym (and_from (eqb obj o) (eqb (group_start index) i) (eq-eqb obj o z.0) (eq-eqb (group_start index) i z.1)) ∙ f)
