-- Whether a block is a formatted data block of a table, by the header of the table and the bitmap of its extent; and its class set.
use Rattle.std.proofs.Common.{◌≡◌, ℕ, zero, suc, ◌+◌, ◌-◌, ◌<◌, ◌≤◌, min, Bool, true, false, cond, not, eqb, ltb, leb, List, [], ◌∷◌, length, Option, Some, None, refl, sym, ◌∙◌, ap, subst, arith, inl, inr, true≢false, eqb-true, leb-true, ltb-true, ltb-false}
use Rattle.std.specs.Prelude.{Result, Ok, Err, IfOk, IfSome}
use Rattle.seg_words.proofs.Lemmas.{cases_Bool, eqb-false, and_parts}
use Rattle.seg_words.specs.Types.{Class as BlockClass, Unformatted, Full, Fs1, Fs2, Fs3, Fs4, Shape, class_code, class_from, first_block, head_blocks, is_shape, MOST_EXTENT_BLOCKS, MOST_PCTFREE}
use Rattle.disk_model.specs.Crash.{Meaning}
use Rattle.redo_model.specs.Records.{Record}
use Rattle.redo_model.specs.Model.{Extent, in_extent, extents_of, extent_at, extent_data, data_of, data_blocks, index_of, is_formatted, code_of, IsTable, IsRowBlock, IsLawful}
use Rattle.redo_laws.specs.Among.{is_in}
use Rattle.redo_laws.proofs.numbers.Bounds.{limits}
use Rattle.redo_laws.proofs.space.Places.{contains_in, in_left, in_right, in_range}
use Rattle.space_laws.proofs.MarksLaw.{formatted_are_under_mark}
use Rattle.mark_laws.proofs.ThereLaw.{codes_tell}
use Rattle.page_set.specs.declared.page.Page.{Page}
use Rattle.page_set.specs.Folded.{page_of}
use Rattle.page_fit.specs.Headers.{SaysHeader}
use Rattle.txn_block.specs.Types.{TxnTable}
use Rattle.version_laws.specs.Types.{HoldsTable}
use Rattle.usage_laws.specs.Types.{ruled_class}
use Rattle.segment_read.specs.declared.segment.Segment.{Segment}
use Rattle.segment_read.specs.Segments.{IsSegment}
use Rattle.store_core.specs.Store.{Held, IsTrue, has_page}
use Rattle.store_core.specs.Causes.{HasLooked, IsSoundFault}
use Rattle.store_core.specs.Adding.{Adds}
use Rattle.store_core.specs.declared.fault.StoreFault.{StoreFault}
use Rattle.store_read.proofs.Truth.{header_says, header_at_has}
use Rattle.space_usage.specs.declared.fault.FixFault.{FixFault}
use Rattle.space_usage.specs.declared.fault.FixFault.TheVariants.{NotDataBlock, BadValue, Store}
use Rattle.space_usage.specs.Asked.{class_in}
use Rattle.space_usage.specs.Counting.{Knows}
use Rattle.space_usage.specs.Keeping.{with_kept}
use Rattle.space_usage.specs.Settles.{HasBlock, Stands}
use Rattle.space_usage.specs.Fixing.{class_of_value, IsWanted, IsFixed, RowTold, SegmentTold}
use Rattle.space_usage.proofs.Bitmaps.{placed_in, index_within, class_told}
use Rattle.space_usage.proofs.Walks.{data_in}

-- ---- the header

pub known_header : {D : Type 0} (meaning : Meaning D) (R : List Record) (o : ℕ) (s : Held D) (sh : Shape) (g : Segment) (p : Page) → Knows meaning R o s sh g → p ≡ page_of s.shape R g.header → SaysHeader R o p
known_header meaning R o s sh g p k e = header_says s.shape R o g.header p k.holds.list.within k.holds.lawful k.table k.segment_is.header e

pub known_there : {D : Type 0} (meaning : Meaning D) (R : List Record) (o : ℕ) (s : Held D) (sh : Shape) (g : Segment) → Knows meaning R o s sh g → has_page s.shape g.header ≡ true
known_there meaning R o s sh g k = header_at_has s.shape R o g.header k.holds.list.within k.holds.lawful k.table k.segment_is.header

pub not_below : (n m : ℕ) → (n < m → ⊥) → m ≤ n
not_below n m f = elim (cases_Bool (ltb n m)) [ inl y ↦ absurd (f (ltb-true n m y)) | inr x ↦ ltb-false n m x ]

-- ---- in which extent it stands

index_here : (sh : Shape) (e : Extent) (es : List Extent) (b : ℕ) → in_extent sh e.number b ≡ true → index_of sh (e ∷ es) b ≡ 0
index_here sh e es b h = rw h refl

index_past : (sh : Shape) (e : Extent) (es : List Extent) (b : ℕ) → in_extent sh e.number b ≡ false → index_of sh (e ∷ es) b ≡ suc (index_of sh es b)
index_past sh e es b h = rw h (let z : 1 + index_of sh es b ≡ suc (index_of sh es b) = omega arith in z)

index_in : (sh : Shape) (es : List Extent) (b i : ℕ) (e : Extent) → i ≡ index_of sh es b → extent_at es i ≡ Some e → in_extent sh e.number b ≡ true
index_in sh [] b i e x at = absurd (let z : ◌≡◌ {A = Option Extent} None (Some e) = at in cc)
index_in sh (f ∷ es) b i e x at = elim (cases_Bool (in_extent sh f.number b)) [
  | inl y ↦
      let z : i ≡ 0 = x ∙ index_here sh f es b y in
      let same : ◌≡◌ {A = Option Extent} (Some f) (Some e) = sym (ap (extent_at (f ∷ es)) z) ∙ at in
      let is : f ≡ e = cc in
      subst (λ (w : Extent). in_extent sh w.number b ≡ true) is y
  | inr n ↦
      let z : i ≡ suc (index_of sh es b) = x ∙ index_past sh f es b n in
      index_in sh es b (index_of sh es b) e refl (sym (ap (extent_at (f ∷ es)) z) ∙ at)
]

within_extent : (sh : Shape) (x b : ℕ) → in_extent sh x b ≡ true → (first_block sh x ≤ b) × (b < first_block sh x + sh.extent)
within_extent sh x b h =
    let p = and_parts (leb (first_block sh x) b) (ltb b (first_block sh x + sh.extent)) h in
    (leb-true (first_block sh x) b p.0, ltb-true b (first_block sh x + sh.extent) p.1)

-- what is known of a block in its extent
pub record StandsIn (sh : Shape) (R : List Record) (o b index x first nth : ℕ) (e : Extent) : Type 0 where
  pub shape : is_shape sh ≡ true
  pub lawful : IsLawful sh R
  pub table : IsTable R o
  pub at : extent_at (extents_of R o) index ≡ Some e
  pub number : e.number ≡ x
  pub is : index ≡ index_of sh (extents_of R o) b
  pub first_is : first ≡ first_block sh x
  pub nth_is : nth ≡ min (b - first) MOST_EXTENT_BLOCKS

pub stands_in : {D : Type 0} (meaning : Meaning D) (R : List Record) (o b index x first nth : ℕ) (s : Held D) (sh : Shape) (g : Segment) (e : Extent) → Knows meaning R o s sh g → is_shape sh ≡ true → extent_at (extents_of R o) index ≡ Some e → e.number ≡ x → index ≡ index_of sh (extents_of R o) b → first ≡ first_block sh x → nth ≡ min (b - first) MOST_EXTENT_BLOCKS → StandsIn sh R o b index x first nth e
stands_in meaning R o b index x first nth s sh g e k w at n i f m = record {
  shape = w;
  lawful = subst (λ (z : Shape). IsLawful z R) (sym k.shape) k.holds.lawful;
  table = k.table;
  at = at;
  number = n;
  is = i;
  first_is = f;
  nth_is = m;
}

pub record ByNumbers (sh : Shape) (b first nth : ℕ) : Type 0 where
  pub place : first + nth ≡ b
  pub below : nth < sh.extent

pub by_numbers : (sh : Shape) (R : List Record) (o b index x first nth : ℕ) (e : Extent) → StandsIn sh R o b index x first nth e → ByNumbers sh b first nth
by_numbers sh R o b index x first nth e k =
    let r = within_extent sh e.number b (index_in sh (extents_of R o) b index e k.is k.at) in
    let from = r.0 in
    let to = r.1 in
    let same : first_block sh e.number ≡ first_block sh x = ap (first_block sh) k.number in
    let f = k.first_is in
    let n = k.nth_is in
    let most = (limits sh k.shape).extent_to in
    record { place = omega (arith, from, to, same, f, n, most); below = omega (arith, from, to, same, f, n, most) }

-- one of the blocks that stand before the data
pub head_told : (sh : Shape) (R : List Record) (o b index x first nth : ℕ) (e : Extent) → StandsIn sh R o b index x first nth e → nth < head_blocks index → RowTold sh R o b false
head_told sh R o b index x first nth e k l = record { yes = λ z. absurd (true≢false (sym z)); no_row_block = λ z here. other here }
  where
    other : IsRowBlock sh R o b → ⊥
    other here =
        let p = placed_in sh R o b k.shape k.lawful k.table here in
        let both : ◌≡◌ {A = Option Extent} (Some p.extent) (Some e) = sym p.at ∙ ap (extent_at (extents_of R o)) (sym k.is) ∙ k.at in
        let same : p.extent ≡ e = cc in
        let r = in_range b (first_block sh p.extent.number + head_blocks (index_of sh (extents_of R o) b)) _ p.has in
        let from = r.0 in
        let one : first_block sh p.extent.number ≡ first_block sh x = ap (λ (w : Extent). first_block sh w.number) same ∙ ap (first_block sh) k.number in
        let head : head_blocks (index_of sh (extents_of R o) b) ≡ head_blocks index = ap head_blocks (sym k.is) in
        let n = by_numbers sh R o b index x first nth e k in
        let place = n.place in
        let f = k.first_is in
        omega (arith, from, one, head, place, f, l)

in_extents : (sh : Shape) (i : ℕ) (es : List Extent) (j : ℕ) (e : Extent) (b : ℕ) → extent_at es j ≡ Some e → is_in b (extent_data sh (i + j) e.number) ≡ true → is_in b (data_of sh i es) ≡ true
in_extents sh i [] j e b at m = absurd (let x : ◌≡◌ {A = Option Extent} None (Some e) = at in cc)
in_extents sh i (f ∷ es) zero e b at m =
    let same : f ≡ e = (let x : ◌≡◌ {A = Option Extent} (Some f) (Some e) = at in cc) in
    let plain : i + 0 ≡ i = omega arith in
    in_left b (extent_data sh i f.number) (data_of sh (suc i) es) (subst (λ (x : Extent). is_in b (extent_data sh i x.number) ≡ true) (sym same) (subst (λ n. is_in b (extent_data sh n e.number) ≡ true) plain m))
in_extents sh i (f ∷ es) (suc j) e b at m =
    let moved : i + suc j ≡ suc i + j = omega arith in
    in_right b (extent_data sh i f.number) (data_of sh (suc i) es) (in_extents sh (suc i) es j e b at (subst (λ n. is_in b (extent_data sh n e.number) ≡ true) moved m))

pub data_there : (sh : Shape) (R : List Record) (o b index x first nth : ℕ) (e : Extent) → StandsIn sh R o b index x first nth e → head_blocks index ≤ nth → is_in b (extent_data sh index e.number) ≡ true
data_there sh R o b index x first nth e k l =
    let n = by_numbers sh R o b index x first nth e k in
    subst (λ d. is_in d (extent_data sh index e.number) ≡ true) n.place (data_in sh index e.number first nth (k.first_is ∙ ap (first_block sh) (sym k.number)) l n.below)

-- a data block, by its code
pub code_row : (sh : Shape) (R : List Record) (o b index x first nth code : ℕ) (e : Extent) → StandsIn sh R o b index x first nth e → head_blocks index ≤ nth → code ≡ code_of sh R b → RowTold sh R o b (not (eqb code 0))
code_row sh R o b index x first nth code e k l c = record { yes = there; no_row_block = away }
  where
    plain : (v : Bool) → not v ≡ true → v ≡ false
    plain true h = absurd (true≢false (sym h))
    plain false h = refl

    zero_code : (v : Bool) → not v ≡ false → v ≡ true
    zero_code true h = refl
    zero_code false h = absurd (true≢false h)

    there : not (eqb code 0) ≡ true → IsRowBlock sh R o b
    there y =
        let other : code ≡ 0 → ⊥ = eqb-false code 0 (plain (eqb code 0) y) in
        let listed : is_in b (data_blocks sh R o) ≡ true = in_extents sh 0 (extents_of R o) index e b k.at (subst (λ n. is_in b (extent_data sh n e.number) ≡ true) (let z : index ≡ 0 + index = omega arith in z) (data_there sh R o b index x first nth e k l)) in
        elim (cases_Bool (is_formatted sh R b)) [
          | inl f ↦ formatted_are_under_mark sh R o b k.lawful.allowed k.table (contains_in (data_blocks sh R o) b listed) f
          | inr n ↦ absurd (other (c ∙ (codes_tell sh R b k.lawful.allowed).unformatted n))
        ]

    away : not (eqb code 0) ≡ false → IsRowBlock sh R o b → ⊥
    away y here =
        let none = eqb-true code 0 (zero_code (eqb code 0) y) in
        let some = ((codes_tell sh R b k.lawful.allowed).formatted here.formatted).0 in
        omega (arith, none, some, c)

-- no extent of the table has it
pub far_told : (sh : Shape) (R : List Record) (o b : ℕ) → is_shape sh ≡ true → IsLawful sh R → IsTable R o → length (extents_of R o) ≤ index_of sh (extents_of R o) b → RowTold sh R o b false
far_told sh R o b s h t far = record { yes = λ z. absurd (true≢false (sym z)); no_row_block = λ z here. (let l = index_within sh R o b (placed_in sh R o b s h t here) in omega (arith, l, far)) }

pub known_lawful : {D : Type 0} (meaning : Meaning D) (R : List Record) (o : ℕ) (s : Held D) (sh : Shape) (g : Segment) → Knows meaning R o s sh g → IsLawful sh R
known_lawful meaning R o s sh g k = subst (λ (z : Shape). IsLawful z R) (sym k.shape) k.holds.lawful

-- ---- what is answered

pub segment_told : (sh k : Shape) (R : List Record) (o b : ℕ) (g : Segment) (y : Bool) → k ≡ sh → IsSegment sh R o g → RowTold k R o b y → y ≡ true → SegmentTold sh R o b (Some g)
segment_told sh k R o b g y e is t z = (subst (λ (s : Shape). IsRowBlock s R o b) e (t.yes z), is)

pub no_segment_told : (sh k : Shape) (R : List Record) (o b : ℕ) (y : Bool) → k ≡ sh → RowTold k R o b y → y ≡ false → IsRowBlock sh R o b → ⊥
no_segment_told sh k R o b y e t z here = t.no_row_block z (subst (λ (s : Shape). IsRowBlock s R o b) (sym e) here)

-- ---- values

some_class : (x y : BlockClass) → ◌≡◌ {A = Option BlockClass} (Some x) (Some y) → x ≡ y
some_class x y e = cc

from_code : (v : ℕ) (c : BlockClass) → class_from v ≡ Some c → class_code c ≡ v
from_code zero c h = ap class_code (sym (some_class Unformatted c h))
from_code (suc zero) c h = ap class_code (sym (some_class Full c h))
from_code (suc (suc zero)) c h = ap class_code (sym (some_class Fs1 c h))
from_code (suc (suc (suc zero))) c h = ap class_code (sym (some_class Fs2 c h))
from_code (suc (suc (suc (suc zero)))) c h = ap class_code (sym (some_class Fs3 c h))
from_code (suc (suc (suc (suc (suc zero))))) c h = ap class_code (sym (some_class Fs4 c h))
from_code (suc (suc (suc (suc (suc (suc n)))))) c h = absurd (let z : ◌≡◌ {A = Option BlockClass} None (Some c) = h in cc)

inside : (a b : Bool) (x : Option BlockClass) (c : BlockClass) → cond a (cond b x None) None ≡ Some c → (a ≡ true) × (x ≡ Some c)
inside true true x c h = (refl, h)
inside true false x c h = absurd (let z : ◌≡◌ {A = Option BlockClass} None (Some c) = h in cc)
inside false b x c h = absurd (let z : ◌≡◌ {A = Option BlockClass} None (Some c) = h in cc)

pub value_code : (v : ℕ) (c : BlockClass) → class_of_value v ≡ Some c → 1 ≤ class_code c
value_code v c h =
    let p = inside (leb 1 v) (leb v 5) (class_from v) c h in
    let l = leb-true 1 v p.0 in
    let e = from_code v c p.1 in
    omega (arith, l, e)

-- ---- the call

pub fixed_kept : {D : Type 0} (meaning : Meaning D) (R : List Record) (o b : ℕ) (value : Option ℕ) (old new : Held D) (c : BlockClass) (y : Bool) → HasBlock meaning R o b old → IsWanted R o b value c → Adds {T = Bool} meaning R (with_kept old.shape R o b c) old new (Ok y) → IsFixed meaning old.shape R o b value old new (Ok c)
fixed_kept meaning R o b value old new c y h w m = record { here = h.here; wanted = w; stands = record { list = m.added; survives = λ since needed s. m.survives since needed s } }

pub fixed_refused : {D : Type 0} (meaning : Meaning D) (R next : List Record) (o b : ℕ) (value : Option ℕ) (old new : Held D) (f : StoreFault) → Adds {T = Bool} meaning R next old new (Err f) → IsFixed meaning old.shape R o b value old new (Err (Store f))
fixed_refused meaning R next o b value old new f m = record { sound = m.sound; stands = record { list = m.refused; survives = λ since needed s. m.survives_refused since needed s } }

pub looked_stands : {D A : Type 0} (meaning : Meaning D) (R : List Record) (old new : Held D) (r : Result A StoreFault) → IsTrue meaning R old → HasLooked meaning old new r → Stands meaning R R old new
looked_stands meaning R old new r t p = record { list = p.stays_true R t; survives = λ since needed s. p.survives since needed R t s }

pub fixed_none : {D A : Type 0} (meaning : Meaning D) (R : List Record) (o b : ℕ) (value : Option ℕ) (old new : Held D) (f : StoreFault) → IsTrue meaning R old → HasLooked {T = A} meaning old new (Err f) → (old.fault ≡ None → IsSoundFault f) → IsFixed meaning old.shape R o b value old new (Err (Store f))
fixed_none meaning R o b value old new f t p s = record { sound = s; stands = looked_stands meaning R old new (Err f) t p }

pub fixed_bad : {D : Type 0} (meaning : Meaning D) (R : List Record) (o b v : ℕ) (s : Held D) → HasBlock meaning R o b s → class_of_value v ≡ None → IsFixed meaning s.shape R o b (Some v) s s (Err (BadValue v))
fixed_bad meaning R o b v s h n = record { here = h.here; is = refl; no_class = n; stands = record { list = h.holds; survives = λ since needed x. x } }

pub fixed_away : {D A : Type 0} (meaning : Meaning D) (R : List Record) (o b : ℕ) (value : Option ℕ) (old new : Held D) (x : A) → IsTrue meaning R old → HasLooked {T = A} meaning old new (Ok x) → (IsRowBlock old.shape R o b → ⊥) → IsFixed meaning old.shape R o b value old new (Err (NotDataBlock b))
fixed_away meaning R o b value old new x t p n = record { block = refl; no_row_block = n; stands = looked_stands meaning R old new (Ok x) t p }

stands_on : {D A : Type 0} (meaning : Meaning D) (R Q : List Record) (a b c : Held D) (x : A) → IsTrue meaning R a → HasLooked {T = A} meaning a b (Ok x) → Stands meaning R Q b c → Stands meaning R Q a c
stands_on meaning R Q a b c x t p s = record { list = s.list; survives = λ since needed h. s.survives since needed (p.survives since needed R t h) }

-- after a call that only looked
pub fixed_on : {D A : Type 0} (meaning : Meaning D) (R : List Record) (o b : ℕ) (value : Option ℕ) (old mid new : Held D) (x : A) (r : Result BlockClass FixFault) → IsTrue meaning R old → HasLooked {T = A} meaning old mid (Ok x) → IsFixed meaning mid.shape R o b value mid new r → IsFixed meaning old.shape R o b value old new r
fixed_on {D} {A} meaning R o b value old mid new x r t p h = go r (subst (λ (s : Shape). IsFixed meaning s R o b value mid new r) p.loan.shape h)
  where
    go : (r : Result BlockClass FixFault) → IsFixed meaning old.shape R o b value mid new r → IsFixed meaning old.shape R o b value old new r
    go (Ok c) k = record { here = k.here; wanted = k.wanted; stands = stands_on meaning R (with_kept old.shape R o b c) old mid new x t p k.stands }
    go (Err (NotDataBlock d)) k = record { block = k.block; no_row_block = k.no_row_block; stands = stands_on meaning R R old mid new x t p k.stands }
    go (Err (BadValue v)) k = record { here = k.here; is = k.is; no_class = k.no_class; stands = stands_on meaning R R old mid new x t p k.stands }
    go (Err (Store f)) k = record { sound = λ n. k.sound (p.cause.kept n); stands = stands_on meaning R R old mid new x t p k.stands }

pub known_block : {D : Type 0} (meaning : Meaning D) (a b : Held D) (R : List Record) (o d : ℕ) (g : Segment) (x : Option Segment) → HasLooked {T = Option Segment} meaning a b (Ok x) → IsTrue meaning R a → IsTable R o → SegmentTold a.shape R o d (Some g) → HasBlock meaning R o d b
known_block meaning a b R o d g x p t i s = record { holds = p.stays_true R t; table = i; here = subst (λ (sh : Shape). IsRowBlock sh R o d) (sym p.loan.shape) s.0 }

pub known_segment : {D : Type 0} (meaning : Meaning D) (a b : Held D) (R : List Record) (o d : ℕ) (g : Segment) (x : Option Segment) → HasLooked {T = Option Segment} meaning a b (Ok x) → SegmentTold a.shape R o d (Some g) → IsSegment b.shape R o g
known_segment meaning a b R o d g x p s = subst (λ (sh : Shape). IsSegment sh R o g) (sym p.loan.shape) s.1

pub percent_told : (x : Option Segment) (g : Segment) → x ≡ Some g → IfSome x (λ (s : Segment). s.pctfree ≤ MOST_PCTFREE) → g.pctfree ≤ MOST_PCTFREE
percent_told x g e h = subst (λ (o : Option Segment). IfSome o (λ (s : Segment). s.pctfree ≤ MOST_PCTFREE)) e h

-- the block's own class
pub own_told : {D : Type 0} (meaning : Meaning D) (R : List Record) (o b : ℕ) (s : Held D) (g : Segment) (q : TxnTable) (r : Result BlockClass StoreFault) → HasBlock meaning R o b s → IsSegment s.shape R o g → HoldsTable R q → g.pctfree ≤ MOST_PCTFREE → IfOk r (λ c. class_in q g.pctfree (page_of s.shape R b) ≡ Some c) → IfOk r (λ c. c ≡ ruled_class R o b)
own_told meaning R o b s g q (Ok c) h is t l e = class_told s.shape R o b g.pctfree q c h.holds.list.within h.holds.lawful h.here t is.pctfree l e
own_told meaning R o b s g q (Err f) h is t l e = tt
