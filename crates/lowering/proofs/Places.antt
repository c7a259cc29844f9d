-- Blocks of a table's extents.
use Rattle.std.proofs.Common.{◌≡◌, ℕ, zero, suc, ◌+◌, ◌-◌, ◌<◌, ◌≤◌, true, ltb, List, [], ◌∷◌, length, take, Option, Some, None, refl, sym, ◌∙◌, ap, arith, inl, inr, leb-true, lt-ltb, ltb-true}
use Rattle.seg_words.proofs.Lemmas.{cond-true, cond-false, cases_Bool}
use Rattle.seg_words.specs.Types.{Shape, first_block, head_blocks, is_shape, MOST_BLOCKS, MOST_EXTENT_BLOCKS}
use Rattle.disk_model.specs.Crash.{Meaning}
use Rattle.redo_model.specs.Records.{Record}
use Rattle.redo_model.specs.Model.{Extent, extents_of, extent_at, extent_data, data_blocks, block_in}
use Rattle.redo_laws.specs.Among.{is_in}
use Rattle.redo_laws.proofs.numbers.Bounds.{limits}
use Rattle.space_laws.proofs.ExtentsLaw.{at_data, found_has, range_in}
use Rattle.mark_laws.proofs.TablesThere.{has_one}
use Rattle.mark_laws.proofs.ThereLaw.{tables_have_extents}
use Rattle.data_places.specs.Places.{block_or_none}
use Rattle.segment_read.specs.Segments.{number_at}
use Rattle.store_core.specs.Store.{Held}
use Rattle.lowering.specs.declared.ground.Ground.{Ground}
use Rattle.lowering.specs.Known.{Knows}
use Rattle.lowering.specs.Walks.{BeginsAt, IsData}
use Rattle.lowering.proofs.Knowing.{lawful_here}

-- ---- extents by their index

pub at_below : (es : List Extent) (n : ℕ) (e : Extent) → extent_at es n ≡ Some e → n < length es
at_below [] n e at = absurd (let z : ◌≡◌ {A = Option Extent} None (Some e) = at in cc)
at_below (f ∷ es) zero e at = omega arith
at_below (f ∷ es) (suc n) e at = (let l = at_below es n e at in omega (arith, l))

pub at_front : (k : ℕ) (es : List Extent) (i : ℕ) → i < k → extent_at (take k es) i ≡ extent_at es i
at_front zero es i l = absurd (omega (arith, l))
at_front (suc k) [] i l = refl
at_front (suc k) (e ∷ es) zero l = refl
at_front (suc k) (e ∷ es) (suc i) l = at_front k es i (omega (arith, l))

pub at_past : (k : ℕ) (es : List Extent) (i : ℕ) → k ≤ i → extent_at (take k es) i ≡ None
at_past zero es i l = refl
at_past (suc k) [] i l = refl
at_past (suc k) (e ∷ es) zero l = absurd (omega (arith, l))
at_past (suc k) (e ∷ es) (suc i) l = at_past k es i (omega (arith, l))

record Named (es : List Extent) (index x : ℕ) : Type 0 where
  extent : Extent
  at : extent_at es index ≡ Some extent
  number : extent.number ≡ x

named : (es : List Extent) (index x : ℕ) → number_at es index ≡ Some x → Named es index x
named [] zero x h = absurd (let z : ◌≡◌ {A = Option ℕ} None (Some x) = h in cc)
named [] (suc i) x h = absurd (let z : ◌≡◌ {A = Option ℕ} None (Some x) = h in cc)
named (e ∷ es) zero x h = record { extent = e; at = refl; number = (let z : ◌≡◌ {A = Option ℕ} (Some e.number) (Some x) = h in cc) }
named (e ∷ es) (suc i) x h = (let n = named es i x h in record { extent = n.extent; at = n.at; number = n.number })

-- ---- a block of an extent

record Numbered (sh : Shape) (x nth d : ℕ) : Type 0 where
  block : d ≡ first_block sh x + nth
  there : d < sh.blocks

numbered : (sh : Shape) (x nth d : ℕ) → block_or_none sh x nth ≡ Some d → Numbered sh x nth d
numbered sh x nth d h = elim (cases_Bool (ltb (first_block sh x + nth) sh.blocks)) [
  | inl y ↦
      let e : ◌≡◌ {A = Option ℕ} (Some (first_block sh x + nth)) (Some d) = sym (cond-true _ _ _ y) ∙ h in
      let t : first_block sh x + nth ≡ d = cc in
      let u = ltb-true _ _ y in
      record { block = sym t; there = omega (arith, t, u) }
  | inr f ↦ absurd (let e : ◌≡◌ {A = Option ℕ} None (Some d) = sym (cond-false _ _ _ f) ∙ h in cc)
]

pub block_most : (sh : Shape) (x nth d : ℕ) → is_shape sh ≡ true → block_or_none sh x nth ≡ Some d → d ≤ MOST_BLOCKS
block_most sh x nth d s h =
    let u = (numbered sh x nth d h).there in
    let m = (limits sh s).most in
    omega (arith, u, m)

pub block_told : (sh : Shape) (es : List Extent) (index x nth d : ℕ) → number_at es index ≡ Some x → block_or_none sh x nth ≡ Some d → d ≡ block_in sh (extent_at es index) nth
block_told sh es index x nth d n h =
    let e = named es index x n in
    (numbered sh x nth d h).block ∙ ap (λ (y : ℕ). first_block sh y + nth) (sym e.number) ∙ sym (ap (λ (z : Option Extent). block_in sh z nth) e.at)

-- each extent of a table is a whole one of the store, so that it has its blocks
pub has_block : {D : Type 0} (meaning : Meaning D) (s : Held D) (R : List Record) (o index x nth : ℕ) (g : Ground) → Knows meaning R o s g → number_at (extents_of R o) index ≡ Some x → nth < g.shape.extent → block_or_none g.shape x nth ≡ None → ⊥
has_block meaning s R o index x nth g k n less h =
    let e = named (extents_of R o) index x n in
    let whole = (tables_have_extents g.shape R o (lawful_here meaning s R o g k) k.table).whole e.extent.number (found_has (extents_of R o) index e.extent e.at) in
    let w = leb-true (first_block g.shape e.extent.number + g.shape.extent) g.shape.blocks whole in
    let same : first_block g.shape e.extent.number ≡ first_block g.shape x = ap (first_block g.shape) e.number in
    let y : ltb (first_block g.shape x + nth) g.shape.blocks ≡ true = lt-ltb (first_block g.shape x + nth) g.shape.blocks (omega (arith, w, less, same)) in
    (let z : ◌≡◌ {A = Option ℕ} (Some (first_block g.shape x + nth)) None = sym (cond-true _ _ _ y) ∙ h in cc)

-- a table has its first extent, and an extent four blocks
pub first_there : {D : Type 0} (meaning : Meaning D) (s : Held D) (R : List Record) (o : ℕ) (g : Ground) → Knows meaning R o s g → 0 < length (extents_of R o)
first_there meaning s R o g k = (let l = has_one g.shape R o (lawful_here meaning s R o g k).allowed (lawful_here meaning s R o g k).whole k.table in omega (arith, l))

pub some_blocks : (sh : Shape) (n : ℕ) → is_shape sh ≡ true → n ≤ 3 → n < sh.extent
some_blocks sh n s l = (let f = (limits sh s).extent_from in omega (arith, f, l))

-- ---- data blocks

pub data_in : (sh : Shape) (index x b nth : ℕ) → b ≡ first_block sh x → IsData sh index nth → is_in (b + nth) (extent_data sh index x) ≡ true
data_in sh index x b nth e d =
    let l = d.past in
    let u = d.within in
    range_in (b + nth) (first_block sh x + head_blocks index) (sh.extent - head_blocks index) (omega (arith, e, l)) (omega (arith, e, l, u))

pub data_there : (sh : Shape) (R : List Record) (o index first nth : ℕ) (e : Extent) → BeginsAt sh R o index e first → IsData sh index nth → is_in (first + nth) (data_blocks sh R o) ≡ true
data_there sh R o index first nth e b d =
    let l = d.past in
    let u = d.within in
    let is = b.block in
    let head : head_blocks (0 + index) ≡ head_blocks index = ap head_blocks (let z : 0 + index ≡ index = omega arith in z) in
    at_data sh 0 (extents_of R o) index (first + nth) e b.at (omega (arith, is, l, head)) (omega (arith, is, u))

pub near : (sh : Shape) (n : ℕ) → is_shape sh ≡ true → n ≤ sh.extent → n ≤ MOST_EXTENT_BLOCKS
near sh n s l = (let m = (limits sh s).extent_to in omega (arith, l, m))
