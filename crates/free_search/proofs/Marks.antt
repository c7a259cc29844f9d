-- The first unformatted block under the high mark, position by position from the low mark on.
use Rattle.std.proofs.Common.{◌≡◌, ℕ, suc, ◌+◌, ◌<◌, ◌≤◌, Bool, true, false, not, List, length, slice_get, Option, Some, None, Ok, refl, sym, ◌∙◌, ap, subst, arith, inl, inr}
use Rattle.std.specs.Prelude.{MatchOption}
use Rattle.seg_words.proofs.Lemmas.{cond-true, cond-false, cases_Bool}
use Rattle.seg_words.specs.Types.{MOST_EXTENT_BLOCKS, Shape, first_block}
use Rattle.disk_model.specs.Crash.{Meaning}
use Rattle.redo_model.specs.Records.{Record}
use Rattle.redo_model.specs.Model.{Extent, extents_of, extent_at, extent_data, block_in, data_blocks, code_of, is_formatted, first_unformatted, under_high, AreAllowed}
use Rattle.redo_laws.specs.Among.{is_in}
use Rattle.redo_laws.proofs.numbers.Bounds.{limits}
use Rattle.space_laws.proofs.MarksLaw.{marks_are_in_order, tables_are_few}
use Rattle.mark_laws.specs.There.{unformatted_from}
use Rattle.mark_laws.proofs.ThereLaw.{codes_tell, unformatted_from_low}
use Rattle.data_places.specs.declared.place.Place.{Place}
use Rattle.data_places.specs.Places.{data_count, IsPlace}
use Rattle.data_places.proofs.PlacesLaw.{counts_are_told, places_are_told}
use Rattle.segment_read.specs.declared.segment.Segment.{Segment}
use Rattle.store_core.specs.Store.{Held, IsTrue}
use Rattle.store_core.specs.Causes.{HasLooked, IsSoundFault}
use Rattle.store_core.specs.declared.fault.StoreFault.{StoreFault}
use Rattle.store_core.proofs.Lookups.{looked_on, looked_ok, looked_same}
use Rattle.free_search.specs.Looks.{HasSegment}
use Rattle.free_search.specs.Walks.{IsAtPosition}
use Rattle.free_search.proofs.Known.{FixedSegment, fixed_segment, segment_later}
use Rattle.free_search.proofs.Extents.{data_in, extent_there}
use Rattle.free_search.proofs.Walking.{not_found, was_found}

-- ---- one position

-- below the high mark there is a place
pub place_there : (R : List Record) (k : Shape) (s : Segment) (position : ℕ) → FixedSegment R k s → position < s.high → data_count k s.extents ≤ position → ⊥
place_there R k s position f less most =
    let t = f.table in
    let last = t.most in
    let few = tables_are_few k R f.lawful.allowed in
    let order = (marks_are_in_order k R s.obj f.lawful.allowed t.least (omega (arith, last, few))).within in
    let told = counts_are_told k (extents_of R s.obj) in
    let same : data_count k s.extents ≡ data_count k (length (extents_of R s.obj)) = ap (data_count k) f.segment.extents in
    let high = f.segment.high in
    omega (arith, order, told, same, high, less, most)

pub no_place : (k : Shape) (extents position : ℕ) (r : Option Place) → r ≡ None → MatchOption r (data_count k extents ≤ position) (λ p. IsPlace k extents p position) → data_count k extents ≤ position
no_place k extents position r e h = subst (λ (x : Option Place). MatchOption x (data_count k extents ≤ position) (λ p. IsPlace k extents p position)) e h

pub one_place : (k : Shape) (extents position : ℕ) (p : Place) (r : Option Place) → r ≡ Some p → MatchOption r (data_count k extents ≤ position) (λ p. IsPlace k extents p position) → IsPlace k extents p position
one_place k extents position p r e h = subst (λ (x : Option Place). MatchOption x (data_count k extents ≤ position) (λ p. IsPlace k extents p position)) e h

-- an index of the table
pub index_there : (R : List Record) (k : Shape) (s : Segment) (p : Place) (position : ℕ) → FixedSegment R k s → IsPlace k s.extents p position → p.index < length (extents_of R s.obj)
index_there R k s p position f w = (let l = w.there in let n = f.segment.extents in omega (arith, l, n))

pub first_small : (R : List Record) (k : Shape) (s : Segment) → FixedSegment R k s → 0 < k.extent
first_small R k s f = (let l = (limits k f.within).extent_from in omega (arith, l))

pub nth_small : (R : List Record) (k : Shape) (s : Segment) (p : Place) (position : ℕ) → FixedSegment R k s → IsPlace k s.extents p position → p.nth < MOST_EXTENT_BLOCKS
nth_small R k s p position f w = (let l = w.within in let m = (limits k f.within).extent_to in omega (arith, l, m))

-- the block at a position, in its extent, which begins at block b
pub record Positioned (R : List Record) (k : Shape) (s : Segment) (p : Place) (position b : ℕ) : Type 0 where
  pub extent : Extent
  pub at : extent_at (extents_of R s.obj) p.index ≡ Some extent
  pub begins : b ≡ first_block k extent.number
  pub here : slice_get (data_blocks k R s.obj) position ≡ Some (b + p.nth)
  pub among : is_in (b + p.nth) (extent_data k p.index extent.number) ≡ true

pub positioned : (R : List Record) (k : Shape) (s : Segment) (p : Place) (position b : ℕ) → FixedSegment R k s → IsPlace k s.extents p position → b ≡ block_in k (extent_at (extents_of R s.obj) p.index) 0 → Positioned R k s p position b
positioned R k s p position b f w is =
    let x = extent_there (extents_of R s.obj) p.index (index_there R k s p position f w) in
    let first : b ≡ first_block k x.0.number = (let z : b ≡ first_block k x.0.number + 0 = is ∙ ap (λ (y : Option Extent). block_in k y 0) x.1 in omega (arith, z)) in
    record {
      extent = x.0;
      at = x.1;
      begins = first;
      here = places_are_told k (extents_of R s.obj) p position x.0 (subst (λ n. IsPlace k n p position) f.segment.extents w) x.1 ∙ ap (λ (n : ℕ). Some (n + p.nth)) (sym first);
      among = data_in k p.index x.0.number b p.nth first w.past w.within;
    }

-- its code, by the shape that the walk keeps
pub code_here : {D : Type 0} (meaning : Meaning D) (b : Held D) (R : List Record) (k : Shape) (s : Segment) (p : Place) (position first code : ℕ) → k ≡ b.shape → IsTrue meaning R b → Positioned R k s p position first
    → ((Q : List Record) (o i : ℕ) (e : Extent) → IsTrue meaning Q b → extent_at (extents_of Q o) i ≡ Some e → first ≡ first_block b.shape e.number → is_in (first + p.nth) (extent_data b.shape i e.number) ≡ true → code ≡ code_of b.shape Q (first + p.nth))
    → code ≡ code_of k R (first + p.nth)
code_here meaning b R k s p position first code e t w says =
    subst (λ (x : Shape). code ≡ code_of x R (first + p.nth)) (sym e)
    (says R s.obj p.index w.extent t w.at (w.begins ∙ ap (λ (x : Shape). first_block x w.extent.number) e) (subst (λ (x : Shape). is_in (first + p.nth) (extent_data x p.index w.extent.number) ≡ true) e w.among))

is_unformatted : (k : Shape) (R : List Record) (b code : ℕ) → AreAllowed k R → code ≡ code_of k R b → code ≡ 0 → is_formatted k R b ≡ false
is_unformatted k R b code h e z = elim (cases_Bool (is_formatted k R b)) [
  | inl y ↦ (let l = ((codes_tell k R b h).formatted y).0 in absurd (omega (arith, l, e, z)))
  | inr f ↦ f
]

has_format : (k : Shape) (R : List Record) (b code : ℕ) → AreAllowed k R → code ≡ code_of k R b → 1 ≤ code → is_formatted k R b ≡ true
has_format k R b code h e l = elim (cases_Bool (is_formatted k R b)) [
  | inl y ↦ y
  | inr f ↦ (let z = (codes_tell k R b h).unformatted f in absurd (omega (arith, l, e, z)))
]

pub at_unformatted : (R : List Record) (k : Shape) (s : Segment) (p : Place) (position first code d : ℕ) → AreAllowed k R → Positioned R k s p position first → code ≡ code_of k R (first + p.nth) → code ≡ 0 → d ≡ first + p.nth → IsAtPosition k R s.obj position (Some d)
at_unformatted R k s p position first code d h w e z is = record {
  block = first + p.nth;
  here = w.here;
  told = ap (λ (n : ℕ). Some n) is ∙ sym (cond-true _ _ _ (ap not (is_unformatted k R (first + p.nth) code h e z)));
}

pub at_formatted : (R : List Record) (k : Shape) (s : Segment) (p : Place) (position first code : ℕ) → AreAllowed k R → Positioned R k s p position first → code ≡ code_of k R (first + p.nth) → 1 ≤ code → IsAtPosition k R s.obj position None
at_formatted R k s p position first code h w e l = record {
  block = first + p.nth;
  here = w.here;
  told = sym (cond-false _ _ _ (ap not (has_format k R (first + p.nth) code h e l)));
}

-- ---- the walk

-- from this position on the first unformatted block is that of the table
pub record FromLow {D : Type 0} (meaning : Meaning D) (a b : Held D) (k : Shape) (s : Segment) (n : ℕ) : Type 0 where
  pub looked : HasLooked {T = Unit {0}} meaning a b (Ok tt)
  pub same : (R : List Record) → IsTrue meaning R a → HasSegment a.shape R k s → unformatted_from k R s.obj n ≡ first_unformatted k R (under_high k R s.obj)

pub from_low : {D : Type 0} (meaning : Meaning D) (a : Held D) (k : Shape) (s : Segment) → a.fault ≡ None → FromLow meaning a a k s s.low
from_low meaning a k s n = record {
  looked = looked_same meaning a tt n;
  same = λ R t h.
      let f = fixed_segment meaning a R k s t h in
      ap (unformatted_from k R s.obj) f.segment.low ∙ (unformatted_from_low k R s.obj f.lawful.allowed f.table).low;
}

-- what is said of one position
abbrev pub SaysAt : {D : Type 0} → Meaning D → Held D → Shape → Segment → ℕ → Option ℕ → Type 0
SaysAt meaning b k s n r = (R : List Record) → IsTrue meaning R b → HasSegment b.shape R k s → n < s.high → IsAtPosition k R s.obj n r

not_not : (v : Bool) → not v ≡ false → v ≡ true
not_not true e = refl
not_not false e = sym e

not_so : (v : Bool) → not v ≡ true → v ≡ false
not_so true e = sym e
not_so false e = refl

pub from_next : {D : Type 0} (meaning : Meaning D) (a b c : Held D) (k : Shape) (s : Segment) (n : ℕ) → n < s.high → FromLow meaning a b k s n → HasLooked {T = Option ℕ} meaning b c (Ok None) → SaysAt meaning b k s n None → FromLow meaning a c k s (n + 1)
from_next meaning a b c k s n less w p says = record {
  looked = looked_ok meaning a c None tt (looked_on meaning a b c tt (Ok None) w.looked p);
  same = λ R t h.
      let f = fixed_segment meaning a R k s t h in
      let x = says R (w.looked.stays_true R t) (segment_later meaning a b R k s w.looked.loan h) less in
      let high = f.segment.high in
      let one : suc n ≡ n + 1 = omega arith in
      subst (λ m. unformatted_from k R s.obj m ≡ first_unformatted k R (under_high k R s.obj)) one
      (sym ((unformatted_from_low k R s.obj f.lawful.allowed f.table).next n x.block x.here (omega (arith, less, high)) (not_not _ (not_found _ x.block x.told))) ∙ w.same R t h);
}

pub from_found : {D : Type 0} (meaning : Meaning D) (a b : Held D) (k : Shape) (s : Segment) (n d : ℕ) (R : List Record) → n < s.high → FromLow meaning a b k s n → SaysAt meaning b k s n (Some d) → IsTrue meaning R a → HasSegment a.shape R k s → Some d ≡ first_unformatted k R (under_high k R s.obj)
from_found meaning a b k s n d R less w says t h =
    let f = fixed_segment meaning a R k s t h in
    let x = says R (w.looked.stays_true R t) (segment_later meaning a b R k s w.looked.loan h) less in
    let found = was_found _ x.block d x.told in
    let high = f.segment.high in
    ap (λ (m : ℕ). Some m) found.block ∙ sym ((unformatted_from_low k R s.obj f.lawful.allowed f.table).here n x.block x.here (omega (arith, less, high)) (not_so _ found.passes)) ∙ w.same R t h

pub from_fails : {D : Type 0} (meaning : Meaning D) (a b : Held D) (k : Shape) (s : Segment) (n : ℕ) (g : StoreFault) (R : List Record) → n < s.high → FromLow meaning a b k s n
    → ((Q : List Record) → IsTrue meaning Q b → HasSegment b.shape Q k s → n < s.high → b.fault ≡ None → IsSoundFault g) → IsTrue meaning R a → HasSegment a.shape R k s → IsSoundFault g
from_fails meaning a b k s n g R less w sound t h = sound R (w.looked.stays_true R t) (segment_later meaning a b R k s w.looked.loan h) less (w.looked.cause.kept w.looked.cause.goes_on)

pub from_end : {D : Type 0} (meaning : Meaning D) (a b : Held D) (k : Shape) (s : Segment) (n : ℕ) (R : List Record) → s.high ≤ n → FromLow meaning a b k s n → IsTrue meaning R a → HasSegment a.shape R k s → None ≡ first_unformatted k R (under_high k R s.obj)
from_end meaning a b k s n R most w t h =
    let f = fixed_segment meaning a R k s t h in
    let high = f.segment.high in
    sym ((unformatted_from_low k R s.obj f.lawful.allowed f.table).end n (omega (arith, most, high))) ∙ w.same R t h
