-- From the blocks of an extent to the positions of a table's data blocks.
use Rattle.std.proofs.Common.{◌≡◌, ℕ, zero, suc, ◌+◌, ◌-◌, ◌<◌, ◌≤◌, min, Bool, true, false, not, ◌&&◌, eqb, ltb, List, [], ◌∷◌, length, slice_get, Option, Some, None, refl, sym, ◌∙◌, ap, subst, arith, inl, inr, le-leb, lt-ltb, leb-true, ltb-true, eqb-true, eq-eqb, true≢false}
use Rattle.seg_words.proofs.Lemmas.{cond-true, cond-false, cases_Bool, and_from, or_left, or_right, eqb-false, not-true}
use Rattle.seg_words.specs.Types.{MOST_BLOCKS, MOST_EXTENT_BLOCKS, Shape, first_block, head_blocks, is_shape}
use Rattle.std.specs.Prelude.{Result, Ok, Err, IfOk}
use Rattle.disk_model.specs.Crash.{Meaning}
use Rattle.redo_model.specs.Records.{Record}
use Rattle.redo_model.specs.Model.{Extent, extents_of, extent_at, block_in, in_extent, extent_data, blocks_from, data_of, data_blocks, code_of, has_extent, is_formatted, IsRowBlock}
use Rattle.redo_laws.specs.Among.{is_in}
use Rattle.redo_laws.proofs.numbers.Bounds.{limits}
use Rattle.redo_laws.proofs.space.LowMark.{apart}
use Rattle.redo_laws.proofs.space.Places.{contains_in, in_left, in_right}
use Rattle.space_laws.proofs.ExtentsLaw.{head_few}
use Rattle.space_laws.proofs.MarksLaw.{formatted_are_under_mark}
use Rattle.mark_laws.proofs.ThereLaw.{tables_have_extents}
use Rattle.data_places.specs.declared.place.Place.{Place}
use Rattle.data_places.specs.Places.{data_count, block_or_none, IsPlace}
use Rattle.data_places.proofs.PlacesLaw.{places_are_told}
use Rattle.segment_read.specs.declared.segment.Segment.{Segment}
use Rattle.segment_read.specs.Segments.{IsSegment, number_at}
use Rattle.store_core.specs.Store.{Held, IsTrue}
use Rattle.store_core.specs.Causes.{HasLooked}
use Rattle.store_core.specs.declared.fault.StoreFault.{StoreFault}
use Rattle.free_search.specs.declared.look.Look.{Look}
use Rattle.free_search.specs.declared.look.Wanted.{Wanted}
use Rattle.free_search.specs.Looks.{is_within, is_elsewhere, passes, passes_in, row_sought, IsFirstBlock, Knows, NoneIn}
use Rattle.free_search.specs.Walks.{NoneOf, FirstOf, NoneWithin, FirstWithin}
use Rattle.free_search.proofs.Known.{Fixed, FixedSegment, fixed, segment_fixed, knows_later}
use Rattle.free_search.proofs.Lists.{none_further, none_passed}

-- the extent with the number that its header names

pub record Named (es : List Extent) (index x : ℕ) : Type 0 where
  pub extent : Extent
  pub at : extent_at es index ≡ Some extent
  pub number : extent.number ≡ x

pub named : (es : List Extent) (index x : ℕ) → number_at es index ≡ Some x → Named es index x
named [] zero x h = absurd (let z : ◌≡◌ {A = Option ℕ} None (Some x) = h in cc)
named [] (suc i) x h = absurd (let z : ◌≡◌ {A = Option ℕ} None (Some x) = h in cc)
named (e ∷ es) zero x h = record { extent = e; at = refl; number = (let z : ◌≡◌ {A = Option ℕ} (Some e.number) (Some x) = h in cc) }
named (e ∷ es) (suc i) x h = (let n = named es i x h in record { extent = n.extent; at = n.at; number = n.number })

pub has_it : (es : List Extent) (index : ℕ) (e : Extent) → extent_at es index ≡ Some e → has_extent es e.number ≡ true
has_it [] index e h = absurd (let x : ◌≡◌ {A = Option Extent} None (Some e) = h in cc)
has_it (f ∷ es) zero e h =
    let same : f ≡ e = (let x : ◌≡◌ {A = Option Extent} (Some f) (Some e) = h in cc) in
    or_left _ _ (eq-eqb f.number e.number (ap (λ (x : Extent). x.number) same))
has_it (f ∷ es) (suc i) e h = or_right (eqb f.number e.number) _ (has_it es i e h)

pub at_below : (es : List Extent) (n : ℕ) (e : Extent) → extent_at es n ≡ Some e → n < length es
at_below [] n e at = absurd (let z : ◌≡◌ {A = Option Extent} None (Some e) = at in cc)
at_below (f ∷ es) zero e at = omega arith
at_below (f ∷ es) (suc n) e at = (let l = at_below es n e at in omega (arith, l))

pub extent_there : (es : List Extent) (n : ℕ) → n < length es → (e : Extent) × (extent_at es n ≡ Some e)
extent_there [] n l = absurd (omega (arith, l))
extent_there (e ∷ es) zero l = (e, refl)
extent_there (e ∷ es) (suc n) l = extent_there es n (omega (arith, l))

-- each extent of a table is a whole one of the store, so that it has its blocks
whole_extent : (R : List Record) (k : Shape) (s : Segment) (index : ℕ) (e : Extent) → FixedSegment R k s → extent_at (extents_of R s.obj) index ≡ Some e → first_block k e.number + k.extent ≤ k.blocks
whole_extent R k s index e f at = leb-true (first_block k e.number + k.extent) k.blocks ((tables_have_extents k R s.obj f.lawful f.table).whole e.number (has_it (extents_of R s.obj) index e at))

pub has_block : (R : List Record) (k : Shape) (s : Segment) (index x nth : ℕ) → FixedSegment R k s → number_at (extents_of R s.obj) index ≡ Some x → nth < k.extent → block_or_none k x nth ≡ None → ⊥
has_block R k s index x nth f n less h =
    let e = named (extents_of R s.obj) index x n in
    let w = whole_extent R k s index e.extent f e.at in
    let same : first_block k e.extent.number ≡ first_block k x = ap (first_block k) e.number in
    let y : ltb (first_block k x + nth) k.blocks ≡ true = lt-ltb (first_block k x + nth) k.blocks (omega (arith, w, less, same)) in
    (let z : ◌≡◌ {A = Option ℕ} (Some (first_block k x + nth)) None = sym (cond-true _ _ _ y) ∙ h in cc)

pub has_first : (R : List Record) (l : Look) (index x : ℕ) → Fixed R l → number_at (extents_of R l.segment.obj) index ≡ Some x → block_or_none l.shape x 0 ≡ None → ⊥
has_first R l index x k n h = (let f = (limits l.shape k.shape).extent_from in has_block R l.shape l.segment index x 0 (segment_fixed R l k) n (omega (arith, f)) h)

-- a block by its number in an extent
record Numbered (k : Shape) (x nth d : ℕ) : Type 0 where
  block : d ≡ first_block k x + nth
  there : d < k.blocks

numbered : (k : Shape) (x nth d : ℕ) → block_or_none k x nth ≡ Some d → Numbered k x nth d
numbered k x nth d h = elim (cases_Bool (ltb (first_block k x + nth) k.blocks)) [
  | inl y ↦
      let e : ◌≡◌ {A = Option ℕ} (Some (first_block k x + nth)) (Some d) = sym (cond-true _ _ _ y) ∙ h in
      let t : first_block k x + nth ≡ d = cc in
      let u = ltb-true _ _ y in
      record { block = sym t; there = omega (arith, t, u) }
  | inr f ↦ absurd (let e : ◌≡◌ {A = Option ℕ} None (Some d) = sym (cond-false _ _ _ f) ∙ h in cc)
]

pub block_most : (k : Shape) (x nth d : ℕ) → is_shape k ≡ true → block_or_none k x nth ≡ Some d → d ≤ MOST_BLOCKS
block_most k x nth d s h =
    let u = (numbered k x nth d h).there in
    let m = (limits k s).most in
    omega (arith, u, m)

pub block_told : (k : Shape) (es : List Extent) (index x nth d : ℕ) → number_at es index ≡ Some x → block_or_none k x nth ≡ Some d → d ≡ block_in k (extent_at es index) nth
block_told k es index x nth d n h =
    let e = named es index x n in
    (numbered k x nth d h).block ∙ ap (λ (y : ℕ). first_block k y + nth) (sym e.number) ∙ sym (ap (λ (z : Option Extent). block_in k z nth) e.at)

-- the extent at an index, with its number and its first block
pub record Begins (R : List Record) (l : Look) (index x b : ℕ) : Type 0 where
  pub extent : Extent
  pub first : IsFirstBlock l.shape R l.segment.obj index extent b
  pub number : extent.number ≡ x

pub begins : (R : List Record) (l : Look) (index x b : ℕ) → number_at (extents_of R l.segment.obj) index ≡ Some x → block_or_none l.shape x 0 ≡ Some b → Begins R l index x b
begins R l index x b n h =
    let e = named (extents_of R l.segment.obj) index x n in
    let d = (numbered l.shape x 0 b h).block in
    let first : b ≡ first_block l.shape x = omega (arith, d) in
    record { extent = e.extent; first = record { extent = e.at; block = first ∙ ap (first_block l.shape) (sym e.number) }; number = e.number }

-- data blocks of an extent

in_from : (b n k : ℕ) → k < n → is_in (b + k) (blocks_from b n) ≡ true
in_from b zero k l = absurd (omega (arith, l))
in_from b (suc n) zero l = or_left _ _ (eq-eqb b (b + 0) (omega arith))
in_from b (suc n) (suc k) l = or_right (eqb b (b + suc k)) _ (subst (λ c. is_in c (blocks_from (suc b) n) ≡ true) (let e : suc b + k ≡ b + suc k = omega arith in e) (in_from (suc b) n k (omega (arith, l))))

pub data_in : (sh : Shape) (index x b nth : ℕ) → b ≡ first_block sh x → head_blocks index ≤ nth → nth < sh.extent → is_in (b + nth) (extent_data sh index x) ≡ true
data_in sh index x b nth e l u =
    subst (λ c. is_in c (extent_data sh index x) ≡ true) (let z : first_block sh x + head_blocks index + (nth - head_blocks index) ≡ b + nth = omega (arith, e, l) in z)
    (in_from (first_block sh x + head_blocks index) (sh.extent - head_blocks index) (nth - head_blocks index) (omega (arith, l, u)))

in_extents : (sh : Shape) (i : ℕ) (es : List Extent) (j : ℕ) (e : Extent) (b : ℕ) → extent_at es j ≡ Some e → is_in b (extent_data sh (i + j) e.number) ≡ true → is_in b (data_of sh i es) ≡ true
in_extents sh i [] j e b at m = absurd (let x : ◌≡◌ {A = Option Extent} None (Some e) = at in cc)
in_extents sh i (f ∷ es) zero e b at m =
    let same : f ≡ e = (let x : ◌≡◌ {A = Option Extent} (Some f) (Some e) = at in cc) in
    let plain : i + 0 ≡ i = omega arith in
    in_left b (extent_data sh i f.number) (data_of sh (suc i) es) (subst (λ (x : Extent). is_in b (extent_data sh i x.number) ≡ true) (sym same) (subst (λ n. is_in b (extent_data sh n e.number) ≡ true) plain m))
in_extents sh i (f ∷ es) (suc j) e b at m =
    let moved : i + suc j ≡ suc i + j = omega arith in
    in_right b (extent_data sh i f.number) (data_of sh (suc i) es) (in_extents sh (suc i) es j e b at (subst (λ n. is_in b (extent_data sh n e.number) ≡ true) moved m))

-- a formatted one is a row block
pub row_block : (R : List Record) (l : Look) (index : ℕ) (e : Extent) (b nth : ℕ) → Fixed R l → IsFirstBlock l.shape R l.segment.obj index e b → head_blocks index ≤ nth → nth < l.shape.extent → is_formatted l.shape R (b + nth) ≡ true → IsRowBlock l.shape R l.segment.obj (b + nth)
row_block R l index e b nth k f least u y =
    let plain : 0 + index ≡ index = omega arith in
    let m : is_in (b + nth) (extent_data l.shape (0 + index) e.number) ≡ true = subst (λ n. is_in (b + nth) (extent_data l.shape n e.number) ≡ true) (sym plain) (data_in l.shape index e.number b nth f.block least u) in
    formatted_are_under_mark l.shape R l.segment.obj (b + nth) k.lawful.allowed k.table (contains_in (data_blocks l.shape R l.segment.obj) (b + nth) (in_extents l.shape 0 (extents_of R l.segment.obj) index e (b + nth) f.extent m)) y

-- where no data block of the extent is wanted
pub none_among : (R : List Record) (l : Look) (w : Wanted) (index : ℕ) (e : Extent) (b from to : ℕ) → IsFirstBlock l.shape R l.segment.obj index e b → head_blocks index ≤ from → to ≤ l.shape.extent → NoneIn l.shape R (row_sought l) w index e → NoneOf (passes l.shape R (row_sought l) w) b from to
none_among R l w index e b from to f least most none = λ nth up below. none (b + nth) (data_in l.shape index e.number b nth f.block (omega (arith, least, up)) (omega (arith, below, most)))

-- ---- positions

-- the extent at an index of a table, its first block, and how many data blocks stand before it
pub record Stands (R : List Record) (l : Look) (index passed b : ℕ) (e : Extent) : Type 0 where
  pub first : IsFirstBlock l.shape R l.segment.obj index e b
  pub there : index < length (extents_of R l.segment.obj)
  pub passed_is : passed ≡ data_count l.shape index

at_position : (R : List Record) (l : Look) (index passed b : ℕ) (e : Extent) (k nth : ℕ) → Stands R l index passed b e → head_blocks index ≤ nth → nth < l.shape.extent → k ≡ passed + (nth - head_blocks index) → slice_get (data_blocks l.shape R l.segment.obj) k ≡ Some (b + nth)
at_position R l index passed b e k nth s least u is =
    let p : Place = record { index = index; nth = nth } in
    let w : IsPlace l.shape (length (extents_of R l.segment.obj)) p k = record { there = s.there; past = least; within = u; position = is ∙ ap (λ n. n + (nth - head_blocks index)) s.passed_is } in
    places_are_told l.shape (extents_of R l.segment.obj) p k e w s.first.extent ∙ ap (λ (n : ℕ). Some (n + nth)) (sym s.first.block)

some_is : (x y : ℕ) → ◌≡◌ {A = Option ℕ} (Some x) (Some y) → x ≡ y
some_is x y e = cc

-- the block at a position of the extent
block_there : (R : List Record) (l : Look) (index passed b : ℕ) (e : Extent) (k c : ℕ) → Stands R l index passed b e → head_blocks index ≤ l.shape.extent → passed ≤ k → k < passed + (l.shape.extent - head_blocks index) → slice_get (data_blocks l.shape R l.segment.obj) k ≡ Some c → b + (head_blocks index + (k - passed)) ≡ c
block_there R l index passed b e k c s few from to h =
    some_is _ _ (sym (at_position R l index passed b e k (head_blocks index + (k - passed)) s (omega arith) (omega (arith, few, from, to)) (omega (arith, from))) ∙ h)

-- the head of an extent is shorter than it
pub head_below : (sh : Shape) (index : ℕ) → is_shape sh ≡ true → head_blocks index < sh.extent
head_below sh index s = (let f = (limits sh s).extent_from in let m = (head_few index).1 in omega (arith, f, m))

pub few_blocks : (sh : Shape) (index head count : ℕ) → is_shape sh ≡ true → head ≡ head_blocks index → count ≤ sh.extent - head_blocks index → head + count ≤ MOST_EXTENT_BLOCKS
few_blocks sh index head count s h l = (let m = (limits sh s).extent_to in let few = head_below sh index s in omega (arith, h, l, m, few))

within_false : (v w : Bool) → w ≡ false → (v && w) ≡ false
within_false true w h = h
within_false false w h = refl

pub record Wants (R : List Record) (l : Look) (only : Option ℕ) (x : ℕ) : Type 0 where
  pub within : (b : ℕ) → in_extent l.shape x b ≡ true → is_within l.shape only b ≡ true

-- this extent is among those that are wanted
pub wants : (R : List Record) (l : Look) (only : Option ℕ) (x : ℕ) → is_elsewhere only x ≡ false → Wants R l only x
wants R l None x f = record { within = λ b h. refl }
wants R l (Some y) x f = record { within = λ b h. subst (λ n. in_extent l.shape n b ≡ true) (sym (eqb-true y x (not_false (eqb y x) f))) h }
  where
    not_false : (v : Bool) → not v ≡ false → v ≡ true
    not_false true z = refl
    not_false false z = absurd (true≢false z)

in_its_extent : (sh : Shape) (x b nth : ℕ) → b ≡ first_block sh x → nth < sh.extent → in_extent sh x (b + nth) ≡ true
in_its_extent sh x b nth e u = and_from _ _ (le-leb (first_block sh x) (b + nth) (omega (arith, e))) (lt-ltb (b + nth) (first_block sh x + sh.extent) (omega (arith, e, u)))

pub lifted : (R : List Record) (l : Look) (p : ℕ → Bool) (only : Option ℕ) (index passed b head count high : ℕ) (e : Extent) (r : Option ℕ) → Stands R l index passed b e → Wants R l only e.number → head ≡ head_blocks index → head_blocks index < l.shape.extent → passed ≤ high → count ≡ min (l.shape.extent - head) (high - passed)
    → FirstOf p b head (head + count) r → FirstWithin (λ c. is_within l.shape only c && p c) (data_blocks l.shape R l.segment.obj) high passed (passed + (l.shape.extent - head_blocks index)) r
lifted R l p only index passed b head count high e None s w h few under c f = λ k d from to u is.
    let same = block_there R l index passed b e k d s (omega (arith, few)) from to is in
    within_false _ _ (ap p (sym same) ∙ f (head_blocks index + (k - passed)) (omega (arith, h)) (omega (arith, h, c, from, to, u)))
lifted R l p only index passed b head count high e (Some d) s w h few under c f =
    let least = f.least in
    let below = f.below in
    let short : f.nth < l.shape.extent = omega (arith, below, h, few, c) in
    record {
      place = passed + (f.nth - head_blocks index);
      least = omega arith;
      below = omega (arith, short, few, least, h);
      under = omega (arith, below, h, c, under, least);
      here = at_position R l index passed b e (passed + (f.nth - head_blocks index)) f.nth s (omega (arith, least, h)) short refl ∙ ap (λ (n : ℕ). Some n) (sym f.block);
      passes = ap (λ n. is_within l.shape only n && p n) f.block ∙ and_from _ _ (w.within (b + f.nth) (in_its_extent l.shape e.number b f.nth s.first.block short)) f.passes;
      none = λ k a from to u is.
          let same = block_there R l index passed b e k a s (omega (arith, few)) from (omega (arith, to, short, few, least, h)) is in
          within_false _ _ (ap p (sym same) ∙ f.none (head_blocks index + (k - passed)) (omega (arith, h)) (omega (arith, h, from, to, least)));
    }

-- another extent is wanted
pub elsewhere : (R : List Record) (l : Look) (p : ℕ → Bool) (only : Option ℕ) (index passed high x : ℕ) → Fixed R l → number_at (extents_of R l.segment.obj) index ≡ Some x → index < length (extents_of R l.segment.obj) → passed ≡ data_count l.shape index → head_blocks index < l.shape.extent → is_elsewhere only x ≡ true
    → NoneWithin (λ c. is_within l.shape only c && p c) (data_blocks l.shape R l.segment.obj) high passed (passed + (l.shape.extent - head_blocks index))
elsewhere R l p None index passed high x k n there e few y = absurd (true≢false (sym y))
elsewhere R l p (Some y) index passed high x k n there e few other = λ i d from to u is.
    let m = named (extents_of R l.segment.obj) index x n in
    let b : ℕ = first_block l.shape m.extent.number in
    let s : Stands R l index passed b m.extent = record { first = record { extent = m.at; block = refl }; there = there; passed_is = e } in
    let same = block_there R l index passed b m.extent i d s (omega (arith, few)) from to is in
    let apart_y : in_extent l.shape y d ≡ false = apart l.shape y m.extent.number d (λ z. eqb-false y x (not-true (eqb y x) other) (sym z ∙ m.number)) (omega (arith, same)) (omega (arith, same, from, to, few)) in
    ap (λ v. v && p d) apart_y

-- where none of an extent is wanted, none of its positions is
none_in_extent : (R : List Record) (l : Look) (w : Wanted) (only : Option ℕ) (index : ℕ) (e : Extent) → Fixed R l → extent_at (extents_of R l.segment.obj) index ≡ Some e → NoneIn l.shape R (row_sought l) w index e
    → NoneWithin (passes_in l.shape R (row_sought l) w only) (data_blocks l.shape R l.segment.obj) l.segment.high (data_count l.shape index) (data_count l.shape (suc index))
none_in_extent R l w only index e f at none = λ k c from to u is.
    let b : ℕ = first_block l.shape e.number in
    let few = head_below l.shape index f.shape in
    let s : Stands R l index (data_count l.shape index) b e = record { first = record { extent = at; block = refl }; there = at_below (extents_of R l.segment.obj) index e at; passed_is = refl } in
    let same = block_there R l index (data_count l.shape index) b e k c s (omega (arith, few)) from to is in
    let nth : ℕ = head_blocks index + (k - data_count l.shape index) in
    within_false (is_within l.shape only c) (passes l.shape R (row_sought l) w c) (ap (passes l.shape R (row_sought l) w) (sym same) ∙ none (b + nth) (data_in l.shape index e.number b nth refl (omega arith) (omega (arith, from, to, few))))

-- of some extents one after the other
pub none_in_extents : (R : List Record) (l : Look) (w : Wanted) (only : Option ℕ) (from n : ℕ) → Fixed R l → from + n ≤ length (extents_of R l.segment.obj) → ((index : ℕ) (e : Extent) → extent_at (extents_of R l.segment.obj) index ≡ Some e → from ≤ index → index < from + n → NoneIn l.shape R (row_sought l) w index e)
    → NoneWithin (passes_in l.shape R (row_sought l) w only) (data_blocks l.shape R l.segment.obj) l.segment.high (data_count l.shape from) (data_count l.shape (from + n))
none_in_extents R l w only from zero f less none =
    let e : data_count l.shape (from + 0) ≡ data_count l.shape from = ap (data_count l.shape) (let z : from + 0 ≡ from = omega arith in z) in
    none_passed (passes_in l.shape R (row_sought l) w only) (data_blocks l.shape R l.segment.obj) l.segment.high (data_count l.shape from) (data_count l.shape (from + 0)) (omega (arith, e))
none_in_extents R l w only from (suc n) f less none =
    let x = extent_there (extents_of R l.segment.obj) (from + n) (omega (arith, less)) in
    subst (λ v. NoneWithin (passes_in l.shape R (row_sought l) w only) (data_blocks l.shape R l.segment.obj) l.segment.high (data_count l.shape from) v) (ap (data_count l.shape) (let z : suc (from + n) ≡ from + suc n = omega arith in z))
    (none_further (passes_in l.shape R (row_sought l) w only) (data_blocks l.shape R l.segment.obj) l.segment.high (data_count l.shape from) (data_count l.shape (from + n)) (data_count l.shape (suc (from + n)))
    (none_in_extents R l w only from n f (omega (arith, less)) (λ index e at least below. none index e at least (omega (arith, below))))
    (none_in_extent R l w only (from + n) x.0 f x.1 (none (from + n) x.0 x.1 (omega arith) (omega arith))))

-- ---- what the store says, by the shape that the search keeps

pub segment_given : (sh : Shape) (R : List Record) (l : Look) → Knows sh R l → IsSegment sh R l.segment.obj l.segment
segment_given sh R l k = subst (λ (s : Shape). IsSegment s R l.segment.obj l.segment) k.shape k.segment

pub first_given : (sh : Shape) (R : List Record) (l : Look) (index b : ℕ) (e : Extent) → Knows sh R l → IsFirstBlock l.shape R l.segment.obj index e b → b ≡ first_block sh e.number
first_given sh R l index b e k f = f.block ∙ ap (λ (s : Shape). first_block s e.number) k.shape

pub code_told : {D : Type 0} (meaning : Meaning D) (a : Held D) (R : List Record) (l : Look) (index b nth c : ℕ) (e : Extent) → IsTrue meaning R a → Knows a.shape R l → IsFirstBlock l.shape R l.segment.obj index e b → head_blocks index ≤ nth → nth < l.shape.extent
    → ((Q : List Record) (o i : ℕ) (x : Extent) → IsTrue meaning Q a → extent_at (extents_of Q o) i ≡ Some x → b ≡ first_block a.shape x.number → is_in (b + nth) (extent_data a.shape i x.number) ≡ true → c ≡ code_of a.shape Q (b + nth))
    → c ≡ code_of l.shape R (b + nth)
code_told meaning a R l index b nth c e t k f least u says =
    subst (λ (s : Shape). c ≡ code_of s R (b + nth)) (sym k.shape)
    (says R l.segment.obj index e t f.extent (first_given a.shape R l index b e k f)
    (subst (λ (s : Shape). is_in (b + nth) (extent_data s index e.number) ≡ true) k.shape (data_in l.shape index e.number b nth f.block least u)))

-- an answer that means more
pub ok_map : {A : Type 0} (P Q : A → Type 0) (r : Result A StoreFault) → ((x : A) → P x → Q x) → IfOk r P → IfOk r Q
ok_map P Q (Ok x) f h = f x h
ok_map P Q (Err e) f h = tt

-- the first one of an extent, by its numbers, is the first one of its positions
pub extent_says : {D : Type 0} (meaning : Meaning D) (a b : Held D) (R : List Record) (l : Look) (w : Wanted) (only : Option ℕ) (index passed x first head count : ℕ) (r : Result (Option ℕ) StoreFault) → IsTrue meaning R a → Knows a.shape R l → HasLooked {T = ℕ} meaning a b (Ok x)
    → number_at (extents_of R l.segment.obj) index ≡ Some x → block_or_none l.shape x 0 ≡ Some first → is_elsewhere only x ≡ false → index < length (extents_of R l.segment.obj) → passed ≡ data_count l.shape index → passed ≤ l.segment.high → head ≡ head_blocks index → count ≡ min (l.shape.extent - head) (l.segment.high - passed)
    → ((Q : List Record) (e : Extent) → IsTrue meaning Q b → Knows b.shape Q l → IsFirstBlock l.shape Q l.segment.obj index e first → head_blocks index ≤ head → head + count ≤ l.shape.extent → IfOk r (FirstOf (passes l.shape Q (row_sought l) w) first head (head + count)))
    → IfOk r (FirstWithin (passes_in l.shape R (row_sought l) w only) (data_blocks l.shape R l.segment.obj) l.segment.high passed (passed + (l.shape.extent - head_blocks index)))
extent_says meaning a b R l w only index passed x first head count r t k p n f here there before under h c says =
    let known = fixed meaning a R l t k in
    let e = begins R l index x first n f in
    let few = head_below l.shape index known.shape in
    ok_map _ _ r
    (λ found of. lifted R l (passes l.shape R (row_sought l) w) only index passed first head count l.segment.high e.extent found (record { first = e.first; there = there; passed_is = before }) (wants R l only e.extent.number (ap (is_elsewhere only) e.number ∙ here)) h few under c of)
    (says R e.extent (p.stays_true R t) (knows_later meaning a b R l p.loan k) e.first (omega (arith, h)) (omega (arith, h, c, few)))

pub extent_sound : {D : Type 0} (meaning : Meaning D) (a b : Held D) (R : List Record) (l : Look) (index x first head count high passed : ℕ) (P : Type 0) → IsTrue meaning R a → Knows a.shape R l → HasLooked {T = ℕ} meaning a b (Ok x)
    → number_at (extents_of R l.segment.obj) index ≡ Some x → block_or_none l.shape x 0 ≡ Some first → head ≡ head_blocks index → count ≡ min (l.shape.extent - head) (high - passed)
    → ((Q : List Record) (e : Extent) → IsTrue meaning Q b → Knows b.shape Q l → IsFirstBlock l.shape Q l.segment.obj index e first → head_blocks index ≤ head → head + count ≤ l.shape.extent → P) → P
extent_sound meaning a b R l index x first head count high passed P t k p n f h c sound =
    let known = fixed meaning a R l t k in
    let e = begins R l index x first n f in
    let few = head_below l.shape index known.shape in
    sound R e.extent (p.stays_true R t) (knows_later meaning a b R l p.loan k) e.first (omega (arith, h)) (omega (arith, h, c, few))
