-- In which extent of its table a block stands, and at which position of its data blocks.
use Rattle.std.proofs.Common.{◌≡◌, ℕ, zero, suc, ◌+◌, ◌<◌, ◌≤◌, Bool, true, false, leb, eqb, List, [], ◌∷◌, length, slice_get, Option, Some, None, refl, sym, ◌∙◌, ap, subst, arith, inl, inr, eqb-true, leb-true, leb-false, ltb-true, true≢false}
use Rattle.std.specs.Prelude.{IfSome, IfNone}
use Rattle.seg_words.proofs.Lemmas.{cases_Bool, and_parts, or_cases}
use Rattle.seg_words.specs.Types.{Shape, first_block}
use Rattle.redo_model.specs.Records.{Record}
use Rattle.redo_model.specs.Model.{Extent, extents_of, extent_at, in_extent, index_of, data_blocks, under_high, high_mark, IsTable, IsRowBlock, AreAllowed}
use Rattle.redo_laws.specs.Among.{is_in}
use Rattle.redo_laws.proofs.space.Apart.{apart_extents}
use Rattle.redo_laws.proofs.space.ApartLaw.{is_listed}
use Rattle.redo_laws.proofs.space.Places.{in_take, segments, a_table}
use Rattle.space_laws.proofs.BestsLaw.{index_is}
use Rattle.change_laws.specs.Types.{IsBornAt}
use Rattle.row_change.specs.Looking.{IsIndexOf, StandsIn, Belongs}
use Rattle.row_change.proofs.Having.{at_within}

-- what was read of the header

pub not_below : (a b : ℕ) → (a < b → false ≡ true) → b ≤ a
not_below a b h = elim (cases_Bool (leb b a)) [
  | inl y ↦ leb-true b a y
  | inr n ↦ absurd (true≢false (sym (h (leb-false b a n))))
]

pub stands_in : (sh : Shape) (R : List Record) (o b index extents : ℕ) (r : Option ℕ) → index ≡ index_of sh (extents_of R o) b → extents ≡ length (extents_of R o) → IfSome r (λ i. i ≡ index) → IfSome r (λ i. i < extents) → IfNone r (extents ≤ index) → StandsIn sh R o b r
stands_in sh R o b index extents None e s same below past = omega (arith, e, s, past)
stands_in sh R o b index extents (Some i) e s same below past = record { is = same ∙ e; there = omega (arith, s, below) }

-- the extent of a block

index_here : (sh : Shape) (e : Extent) (es : List Extent) (b : ℕ) → in_extent sh e.number b ≡ true → index_of sh (e ∷ es) b ≡ 0
index_here sh e es b h = rw h refl

index_past : (sh : Shape) (e : Extent) (es : List Extent) (b : ℕ) → in_extent sh e.number b ≡ false → index_of sh (e ∷ es) b ≡ suc (index_of sh es b)
index_past sh e es b h = rw h (let z : 1 + index_of sh es b ≡ suc (index_of sh es b) = omega arith in z)

has_it : (sh : Shape) (es : List Extent) (i b : ℕ) (e : Extent) → extent_at es i ≡ Some e → i ≡ index_of sh es b → in_extent sh e.number b ≡ true
has_it sh [] i b e at is = absurd (let z : ◌≡◌ {A = Option Extent} None (Some e) = at in cc)
has_it sh (f ∷ es) zero b e at is = elim (cases_Bool (in_extent sh f.number b)) [
  | inl y ↦ (let same : f ≡ e = cc in subst (λ (z : Extent). in_extent sh z.number b ≡ true) same y)
  | inr n ↦ absurd (let z : 0 ≡ suc (index_of sh es b) = is ∙ index_past sh f es b n in omega (arith, z))
]
has_it sh (f ∷ es) (suc i) b e at is = elim (cases_Bool (in_extent sh f.number b)) [
  | inl y ↦ absurd (let z : suc i ≡ 0 = is ∙ index_here sh f es b y in omega (arith, z))
  | inr n ↦ (let z : suc i ≡ suc (index_of sh es b) = is ∙ index_past sh f es b n in has_it sh es i b e at (omega (arith, z)))
]

born_index : (sh : Shape) (R : List Record) (o b born : ℕ) → AreAllowed sh R → IsTable R o → (x : IsBornAt sh R o b born) → index_of sh (extents_of R o) b ≡ x.index
born_index sh R o b born h t x =
    let p = and_parts _ _ x.has in
    index_is sh (extents_of R o) x.index b x.extent (apart_extents sh R o h (a_table sh R o (segments sh R h) t)) x.at (leb-true (first_block sh x.extent.number) b p.0) (ltb-true b (first_block sh x.extent.number + sh.extent) p.1)

pub no_extent : (sh : Shape) (R : List Record) (o b born : ℕ) → AreAllowed sh R → IsTable R o → StandsIn sh R o b None → Belongs sh R o b born false
no_extent sh R o b born h t n = λ x. absurd (let i = born_index sh R o b born h t x in let l = at_within (extents_of R o) x.index x.extent x.at in omega (arith, n, i, l))

same_extent : (e f : Extent) → ◌≡◌ {A = Option Extent} (Some e) (Some f) → e ≡ f
same_extent e f q = cc

pub belongs : (sh : Shape) (R : List Record) (o b born index now : ℕ) (e : Extent) (v : Bool) → AreAllowed sh R → IsTable R o → IsIndexOf sh R o b index → extent_at (extents_of R o) index ≡ Some e → now ≡ e.incarnation → (v ≡ true → now ≡ born) → (v ≡ false → now ≡ born → ⊥) → Belongs sh R o b born v
belongs sh R o b born index now e true h t i at n same other = record { index = index; extent = e; at = at; has = has_it sh (extents_of R o) index b e at i.is; born_is = sym n ∙ same refl }
belongs sh R o b born index now e false h t i at n same other = λ x.
    let one : e ≡ x.extent = same_extent e x.extent (sym at ∙ ap (extent_at (extents_of R o)) (i.is ∙ born_index sh R o b born h t x) ∙ x.at) in
    other refl (n ∙ ap (λ (z : Extent). z.incarnation) one ∙ x.born_is)

-- the position of a row block

pub record PositionOf (xs : List ℕ) (b : ℕ) : Type 0 where
  pub position : ℕ
  pub at : slice_get xs position ≡ Some b

position_in : (xs : List ℕ) (b : ℕ) → is_in b xs ≡ true → PositionOf xs b
position_in [] b h = absurd (true≢false (sym h))
position_in (x ∷ xs) b h = elim (or_cases (eqb x b) (is_in b xs) h) [
  | inl y ↦ record { position = 0; at = ap (λ z. Some z) (eqb-true x b y) }
  | inr y ↦ (let p = position_in xs b y in record { position = suc p.position; at = p.at })
]

pub row_position : (sh : Shape) (R : List Record) (o b : ℕ) → IsRowBlock sh R o b → PositionOf (data_blocks sh R o) b
row_position sh R o b x = position_in (data_blocks sh R o) b (in_take b (high_mark R o) (data_blocks sh R o) (is_listed (under_high sh R o) b x.here))
