-- A row block of a true store, its page, its table's header and the bitmaps that cover it.
use Rattle.std.proofs.Common.{◌≡◌, ℕ, zero, suc, ◌+◌, ◌-◌, ◌*◌, ◌/◌, ◌%◌, ◌<◌, ◌≤◌, min, Bool, true, false, cond, not, eqb, ltb, leb, List, [], ◌∷◌, length, slice_set, Option, Some, None, refl, sym, ◌∙◌, ap, ap₂, subst, arith, lt-ltb, le-leb, leb-true}
use Rattle.seg_words.proofs.Lemmas.{cond-true, cond-false, not-true, or_left, or_right}
use Rattle.std.proofs.lemmas.Bool.{eq-eqb}
use Rattle.seg_words.specs.Types.{Class as BlockClass, Shape, first_block, class_code, class_of_block as class_of_rows, class_of, of_quarters, is_shape, is_extent, EXTENTS_OF_L2, MOST_EXTENT_BLOCKS, MOST_PCTFREE, BLOCK_ROOM}
use Rattle.seg_words.specs.Types.{Unformatted, Full, Fs1, Fs2, Fs3, Fs4}
use Rattle.disk_model.specs.Crash.{Meaning}
use Rattle.bitmap_block.specs.Codes.{best_of}
use Rattle.bitmap_block.specs.Pages.{ExtentMap, Summary}
use Rattle.txn_block.specs.Types.{TxnTable}
use Rattle.redo_model.specs.Records.{Record, Class, Clean, ClassRecord}
use Rattle.redo_model.specs.Model.{Extent, extents_of, extent_data, extent_at, block_in, has_extent, index_of, group_start, l2_of, data_blocks, high_mark, under_high, is_formatted, kept_class, code_of, pctfree_of, free_of, best_in_l1, best_in_l2, IsTable, IsRowBlock, IsLawful, ClassAllowed}
use Rattle.redo_laws.specs.Among.{is_in}
use Rattle.redo_laws.proofs.numbers.Bounds.{limits, data_bound, l1_best_bound}
use Rattle.redo_laws.proofs.space.Places.{in_contains, in_take, data_in_extent}
use Rattle.space_laws.proofs.ExtentsLaw.{each_block_has_one_role}
use Rattle.sort_laws.proofs.SortsLaw.{group_below}
use Rattle.mark_laws.specs.There.{HasExtents}
use Rattle.mark_laws.proofs.FormatBests.{stands}
use Rattle.mark_laws.proofs.ThereLaw.{tables_have_extents}
use Rattle.end_laws.proofs.Allowed.{called}
use Rattle.page_set.specs.declared.page.Page.{Page}
use Rattle.page_set.specs.declared.page.Page.TheVariants.{First, Second}
use Rattle.page_set.specs.Folded.{page_of}
use Rattle.page_fit.specs.Headers.{SaysHeader}
use Rattle.page_says.specs.Levels.{FirstSays, SecondSays, SaysFirst, SaysSecond}
use Rattle.page_says.specs.LevelBests.{ClassBests}
use Rattle.page_says.proofs.FirstLevel.{first_levels_say}
use Rattle.page_says.proofs.SecondLevel.{second_levels_say}
use Rattle.page_says.proofs.BestsRead.{class_bests_are_read}
use Rattle.store_laws.proofs.KindsLaw.{rows_stand}
use Rattle.version_laws.specs.Types.{HoldsTable, ended_by}
use Rattle.usage_laws.specs.Types.{drafted_clean, calls_for_clean, with_clean, ruled_class, class_with, class_to, reclassed, SettlingTold}
use Rattle.usage_laws.proofs.ClassLaw.{same_l1, same_l2}
use Rattle.usage_laws.proofs.ToldLaw.{settlings_are_told}
use Rattle.segment_read.specs.declared.segment.Segment.{Segment}
use Rattle.segment_read.specs.Segments.{IsSegment, number_at}
use Rattle.data_places.specs.Places.{block_or_none}
use Rattle.store_core.specs.Store.{Held, has_page}
use Rattle.store_read.proofs.Truth.{header_says, header_at_has, page_when}
use Rattle.space_usage.specs.declared.levels.Levels.{Levels}
use Rattle.space_usage.specs.Asked.{clean_in, class_in, best_with, best_in}
use Rattle.space_usage.specs.Keeping.{is_other, with_kept, levels_of}
use Rattle.space_usage.specs.Settles.{HasBlock}

-- ---- where the block stands

pub record Placed (sh : Shape) (R : List Record) (o b : ℕ) : Type 0 where
  pub extent : Extent
  pub at : extent_at (extents_of R o) (index_of sh (extents_of R o) b) ≡ Some extent
  pub has : is_in b (extent_data sh (index_of sh (extents_of R o) b) extent.number) ≡ true
  pub place : first_block sh extent.number + (b - first_block sh extent.number) ≡ b
  pub near : b - first_block sh extent.number < MOST_EXTENT_BLOCKS

pub data_of_table : (sh : Shape) (R : List Record) (o b : ℕ) → IsRowBlock sh R o b → is_in b (data_blocks sh R o) ≡ true
data_of_table sh R o b x = in_take b (high_mark R o) (data_blocks sh R o) (in_contains (under_high sh R o) b x.here.0 x.here.1 x.here.2)

pub placed_in : (sh : Shape) (R : List Record) (o b : ℕ) → is_shape sh ≡ true → IsLawful sh R → IsTable R o → IsRowBlock sh R o b → Placed sh R o b
placed_in sh R o b s h t x =
    let k = stands sh R o b h.allowed t (data_of_table sh R o b x) in
    let has : is_in b (extent_data sh (index_of sh (extents_of R o) b) k.extent.number) ≡ true = subst (λ i. is_in b (extent_data sh i k.extent.number) ≡ true) (sym k.is) k.has in
    let r = data_in_extent sh (index_of sh (extents_of R o) b) k.extent.number b has in
    let from = r.0 in
    let to = r.1 in
    let most = (limits sh s).extent_to in
    record { extent = k.extent; at = ap (extent_at (extents_of R o)) k.is ∙ k.at; has = has; place = omega (arith, from); near = omega (arith, from, to, most) }

at_within : (es : List Extent) (i : ℕ) (e : Extent) → extent_at es i ≡ Some e → i < length es
at_within [] i e h = absurd (let x : ◌≡◌ {A = Option Extent} None (Some e) = h in cc)
at_within (f ∷ es) zero e h = omega arith
at_within (f ∷ es) (suc i) e h = (let k = at_within es i e h in omega (arith, k))

pub index_within : (sh : Shape) (R : List Record) (o b : ℕ) → Placed sh R o b → index_of sh (extents_of R o) b < length (extents_of R o)
index_within sh R o b p = at_within (extents_of R o) (index_of sh (extents_of R o) b) p.extent p.at

at_below : (es : List Extent) (i : ℕ) → i < length es → (e : Extent) × (extent_at es i ≡ Some e)
at_below [] i l = absurd (omega (arith, l))
at_below (e ∷ es) zero l = (e, refl)
at_below (e ∷ es) (suc i) l = at_below es i (omega (arith, l))

-- the first extent of its group
pub group_at : (sh : Shape) (R : List Record) (o b : ℕ) → Placed sh R o b → (e : Extent) × (extent_at (extents_of R o) (group_start (index_of sh (extents_of R o) b)) ≡ Some e)
group_at sh R o b p =
    let l = index_within sh R o b p in
    let g = group_below (index_of sh (extents_of R o) b) in
    at_below (extents_of R o) (group_start (index_of sh (extents_of R o) b)) (omega (arith, l, g))

-- ---- its page

pub rows_have : (sh : Shape) (R : List Record) (o b : ℕ) → is_shape sh ≡ true → IsLawful sh R → IsTable R o → IsRowBlock sh R o b → has_page sh b ≡ true
rows_have sh R o b s h t x =
    let roles = each_block_has_one_role sh R s h.allowed in
    let p = placed_in sh R o b s h t x in
    let w = roles.within o (index_of sh (extents_of R o) b) 0 (first_block sh p.extent.number) (roles.l1 o (index_of sh (extents_of R o) b) p.extent t p.at) in
    let l = w.0 in
    let r = data_in_extent sh (index_of sh (extents_of R o) b) p.extent.number b p.has in
    let from = r.0 in
    page_when sh b (omega (arith, l, from)) (data_bound sh R o b h.allowed (data_of_table sh R o b x)).1

-- ---- its Clean

abbrev pub called_clean : List Record → ℕ → Option (List (ℕ × ℕ))
called_clean R b = cond (calls_for_clean R b) (Some (drafted_clean R b).ended) None

pub clean_read : (sh : Shape) (R : List Record) (o b : ℕ) (q : TxnTable) → is_shape sh ≡ true → IsLawful sh R → IsRowBlock sh R o b → HoldsTable R q → clean_in q (page_of sh R b) ≡ Some (called_clean R b)
clean_read sh R o b q s h x k =
    let r = rows_stand sh R o b s h x in
    let t : SettlingTold R b r.rows q = settlings_are_told sh R b r.rows q h.allowed r.holds k in
    ap (clean_in q) r.page
    ∙ ap₂ (λ (v : Bool) (es : List (ℕ × ℕ)). Some (cond v (Some es) None)) t.calls t.clean

some_inside : {A : Type 0} (x y : A) → ◌≡◌ {A = Option A} (Some x) (Some y) → x ≡ y
some_inside x y e = cc

pub chosen : {A : Type 0} (v : Bool) (x y : A) → ◌≡◌ {A = Option A} (cond v (Some x) None) (Some y) → (v ≡ true) × (y ≡ x)
chosen true x y e = (refl, sym (some_inside x y e))
chosen false x y e = absurd (let z : ◌≡◌ {A = Option _} None (Some y) = e in cc)

pub not_chosen : {A : Type 0} (v : Bool) (x : A) → ◌≡◌ {A = Option A} (cond v (Some x) None) None → v ≡ false
not_chosen true x e = absurd (let z : ◌≡◌ {A = Option _} (Some x) None = e in cc)
not_chosen false x e = refl

-- what was answered
clean_answer : (sh : Shape) (R : List Record) (o b : ℕ) (q : TxnTable) (x : Option (List (ℕ × ℕ))) → is_shape sh ≡ true → IsLawful sh R → IsRowBlock sh R o b → HoldsTable R q → clean_in q (page_of sh R b) ≡ Some x → called_clean R b ≡ x
clean_answer sh R o b q x s h w k e = some_inside (called_clean R b) x (sym (clean_read sh R o b q s h w k) ∙ e)

pub clean_told : (sh : Shape) (R : List Record) (o b : ℕ) (q : TxnTable) (x : Option (List (ℕ × ℕ))) (ended : List (ℕ × ℕ)) → is_shape sh ≡ true → IsLawful sh R → IsRowBlock sh R o b → HoldsTable R q → clean_in q (page_of sh R b) ≡ Some x → x ≡ Some ended
    → (calls_for_clean R b ≡ true) × (◌≡◌ {A = Record} (Clean (record { dba = b; ended = ended })) (Clean (drafted_clean R b)))
clean_told sh R o b q x ended s h w k e is =
    let c = chosen (calls_for_clean R b) (drafted_clean R b).ended ended (clean_answer sh R o b q x s h w k e ∙ is) in
    (c.0, ap (λ (es : List (ℕ × ℕ)). Clean (record { dba = b; ended = es })) c.1)

pub none_told : (sh : Shape) (R : List Record) (o b : ℕ) (q : TxnTable) (x : Option (List (ℕ × ℕ))) → is_shape sh ≡ true → IsLawful sh R → IsRowBlock sh R o b → HoldsTable R q → clean_in q (page_of sh R b) ≡ Some x → x ≡ None → calls_for_clean R b ≡ false
none_told sh R o b q x s h w k e is = not_chosen (calls_for_clean R b) (drafted_clean R b).ended (clean_answer sh R o b q x s h w k e ∙ is)

pub with_called : (R : List Record) (b : ℕ) → calls_for_clean R b ≡ true → Clean (drafted_clean R b) ∷ R ≡ with_clean R b
with_called R b y = sym (cond-true _ _ _ y)

pub with_none : (R : List Record) (b : ℕ) → calls_for_clean R b ≡ false → R ≡ with_clean R b
with_none R b n = sym (cond-false _ _ _ n)

-- ---- its class

pub class_read : (sh : Shape) (R : List Record) (o b pctfree : ℕ) (q : TxnTable) → is_shape sh ≡ true → IsLawful sh R → IsRowBlock sh R o b → HoldsTable R q → pctfree ≡ pctfree_of R o → pctfree ≤ MOST_PCTFREE → class_in q pctfree (page_of sh R b) ≡ Some (ruled_class R o b)
class_read sh R o b pctfree q s h x k e most =
    let r = rows_stand sh R o b s h x in
    let t : SettlingTold R b r.rows q = settlings_are_told sh R b r.rows q h.allowed r.holds k in
    ap (class_in q pctfree) r.page
    ∙ cond-true (leb pctfree MOST_PCTFREE) (Some (class_of_rows (ended_by q) pctfree r.rows.block)) None (le-leb pctfree MOST_PCTFREE most)
    ∙ ap (λ n. Some (class_of_rows (ended_by q) n r.rows.block)) e
    ∙ ap (λ (c : BlockClass). Some c) (t.class o)

pub class_told : (sh : Shape) (R : List Record) (o b pctfree : ℕ) (q : TxnTable) (c : BlockClass) → is_shape sh ≡ true → IsLawful sh R → IsRowBlock sh R o b → HoldsTable R q → pctfree ≡ pctfree_of R o → pctfree ≤ MOST_PCTFREE → class_in q pctfree (page_of sh R b) ≡ Some c → c ≡ ruled_class R o b
class_told sh R o b pctfree q c s h x k e most is = some_inside c (ruled_class R o b) (sym is ∙ class_read sh R o b pctfree q s h x k e most)

quarters_from : (n : ℕ) → 1 ≤ class_code (of_quarters n)
quarters_from zero = omega arith
quarters_from (suc zero) = omega arith
quarters_from (suc (suc zero)) = omega arith
quarters_from (suc (suc (suc n))) = omega arith

formatted_code : (free pctfree : ℕ) → 1 ≤ class_code (class_of free pctfree)
formatted_code free pctfree = elim (ltb (free * 100) (pctfree * BLOCK_ROOM)) as (λ v. 1 ≤ class_code (cond v Full (of_quarters (4 * free / BLOCK_ROOM)))) [ true ↦ omega arith | false ↦ quarters_from (4 * free / BLOCK_ROOM) ]

pub ruled_code : (R : List Record) (o b : ℕ) → 1 ≤ class_code (ruled_class R o b)
ruled_code R o b = formatted_code (free_of R b) (pctfree_of R o)

-- ---- the Class that keeps one

pub kept_lawful : (sh : Shape) (R : List Record) (o b : ℕ) (c : BlockClass) → IsLawful sh R → IsTable R o → IsRowBlock sh R o b → 1 ≤ class_code c → is_other R b c ≡ true → IsLawful sh (Class (class_to sh R o b c) ∷ R)
kept_lawful sh R o b c h t x l y =
    let i = index_of sh (extents_of R o) b in
    let before : List Record = reclassed sh R o b c in
    let after : List Record = Class (class_to sh R o b c) ∷ R in
    let kind : ClassAllowed sh R (class_to sh R o b c) = record {
      table = t;
      here = x;
      formatted_class = l;
      another = not-true (eqb (class_code c) (class_code (kept_class R b))) y;
      bitmaps = record { index_is = refl; l2_is = refl; l3_is = refl };
      bests = record { l1 = same_l1 sh before after o i refl (λ d. refl); l2 = same_l2 sh before after o (group_start i) refl (λ d. refl) };
    } in
    record { allowed = (h.allowed, record { called_for = called R _ h.whole; kind = kind }); whole = refl }

pub kept_on : (sh : Shape) (R : List Record) (o b : ℕ) (c : BlockClass) → is_other R b c ≡ true → Class (class_to sh R o b c) ∷ R ≡ with_kept sh R o b c
kept_on sh R o b c y = sym (cond-true _ _ _ y)

pub kept_off : (sh : Shape) (R : List Record) (o b : ℕ) (c : BlockClass) → is_other R b c ≡ false → R ≡ with_kept sh R o b c
kept_off sh R o b c n = sym (cond-false _ _ _ n)

pub kept_at : (sh k : Shape) (R : List Record) (o b : ℕ) (c d : BlockClass) → k ≡ sh → c ≡ d → with_kept k R o b c ≡ with_kept sh R o b d
kept_at sh k R o b c d e f = ap (λ (s : Shape). with_kept s R o b c) e ∙ ap (with_kept sh R o b) f

-- ---- the levels of its bitmap

record IsFirst (sh : Shape) (R : List Record) (i : ℕ) (e : Extent) (p : Page) : Type 0 where
  map : ExtentMap
  page : p ≡ First map
  says : FirstSays sh R i e map

is_first : (sh : Shape) (R : List Record) (i : ℕ) (e : Extent) (p : Page) → SaysFirst sh R i e p → IsFirst sh R i e p
is_first sh R i e (First m) h = record { map = m; page = refl; says = h }
is_first sh R i e _ h = absurd h

record IsSecond (sh : Shape) (R : List Record) (o start : ℕ) (p : Page) : Type 0 where
  map : Summary
  page : p ≡ Second map
  says : SecondSays sh R o start map

is_second : (sh : Shape) (R : List Record) (o start : ℕ) (p : Page) → SaysSecond sh R o start p → IsSecond sh R o start p
is_second sh R o start (Second m) h = record { map = m; page = refl; says = h }
is_second sh R o start _ h = absurd h

-- the first level stands in the first block of the extent
pub l1_is : (sh : Shape) (R : List Record) (o b : ℕ) (p : Placed sh R o b) → (levels_of sh R o b).l1 ≡ first_block sh p.extent.number
l1_is sh R o b p = ap (λ (x : Option Extent). block_in sh x 0) p.at ∙ (let z : first_block sh p.extent.number + 0 ≡ first_block sh p.extent.number = omega arith in z)

pub nth_is : (sh : Shape) (R : List Record) (o b : ℕ) (p : Placed sh R o b) → min (b - (levels_of sh R o b).l1) MOST_EXTENT_BLOCKS ≡ b - first_block sh p.extent.number
nth_is sh R o b p =
    let l = p.near in
    ap (λ n. min (b - n) MOST_EXTENT_BLOCKS) (l1_is sh R o b p) ∙ (let z : min (b - first_block sh p.extent.number) MOST_EXTENT_BLOCKS ≡ b - first_block sh p.extent.number = omega (arith, l) in z)

class_small : (c : BlockClass) → class_code c ≤ 5
class_small Unformatted = omega arith
class_small Full = omega arith
class_small Fs1 = omega arith
class_small Fs2 = omega arith
class_small Fs3 = omega arith
class_small Fs4 = omega arith

with_told : (places nth code : ℕ) (codes : List ℕ) → nth < places → code ≤ 5 → best_with places nth code codes ≡ Some (best_of (slice_set codes nth code))
with_told places nth code codes l m = cond-true (ltb nth places) _ None (lt-ltb nth places l) ∙ cond-true (leb code 5) _ None (le-leb code 5 m)

-- what both levels tell of the Class
pub record BestsTold (sh : Shape) (R : List Record) (o b : ℕ) (c : BlockClass) : Type 0 where
  pub l1 : best_in (min (b - (levels_of sh R o b).l1) MOST_EXTENT_BLOCKS) (class_code c) (page_of sh R (levels_of sh R o b).l1) ≡ Some (best_in_l1 sh (reclassed sh R o b c) o (index_of sh (extents_of R o) b))
  pub l2 : (n : ℕ) → n ≡ best_in_l1 sh (reclassed sh R o b c) o (index_of sh (extents_of R o) b) → best_in ((levels_of sh R o b).index % EXTENTS_OF_L2) n (page_of sh R (levels_of sh R o b).l2) ≡ Some (best_in_l2 sh (reclassed sh R o b c) o (group_start (index_of sh (extents_of R o) b)))
  pub l1_has : has_page sh (levels_of sh R o b).l1 ≡ true
  pub l2_has : has_page sh (levels_of sh R o b).l2 ≡ true

pub bests_told : (sh : Shape) (R : List Record) (o b : ℕ) (c : BlockClass) → is_shape sh ≡ true → IsLawful sh R → IsTable R o → IsRowBlock sh R o b → BestsTold sh R o b c
bests_told sh R o b c s h t x =
    let p = placed_in sh R o b s h t x in
    let i : ℕ = index_of sh (extents_of R o) b in
    let e = p.extent in
    let g = group_at sh R o b p in
    let k : ClassRecord = class_with sh R o b c 0 0 in
    let f = is_first sh R i e (page_of sh R (first_block sh e.number)) (first_levels_say sh R o i e s h.allowed p.at) in
    let w = is_second sh R o (group_start i) (page_of sh R (l2_of sh (extents_of R o) i)) (second_levels_say sh R o i g.0 s h.allowed g.1) in
    let bests : ClassBests sh R o i e k f.map w.map = class_bests_are_read sh R o i e k f.map w.map s h.allowed p.at p.has x.formatted f.says w.says in
    let roles = each_block_has_one_role sh R s h.allowed in
    let at1 = roles.within o i 0 (first_block sh e.number) (roles.l1 o i e t p.at) in
    let at2 = roles.within o (group_start i) 1 (l2_of sh (extents_of R o) i) (roles.l2 o i g.0 t g.1) in
    let from1 = at1.0 in
    let from2 = at2.0 in
    record {
      l1 = ap₂ (λ n d. best_in n (class_code c) (page_of sh R d)) (nth_is sh R o b p) (l1_is sh R o b p)
          ∙ ap (best_in (b - first_block sh e.number) (class_code c)) f.page
          ∙ with_told MOST_EXTENT_BLOCKS (b - first_block sh e.number) (class_code c) f.map.codes p.near (class_small c)
          ∙ ap (λ (n : ℕ). Some n) (sym bests.l1);
      l2 = λ n is.
          (let small = l1_best_bound sh (reclassed sh R o b c) o i in
          let below : i % EXTENTS_OF_L2 < EXTENTS_OF_L2 = omega arith in
          ap (best_in (i % EXTENTS_OF_L2) n) w.page
          ∙ with_told EXTENTS_OF_L2 (i % EXTENTS_OF_L2) n w.map.codes below (omega (arith, is, small))
          ∙ ap (λ m. Some (best_of (slice_set w.map.codes (i % EXTENTS_OF_L2) m))) is
          ∙ ap (λ (m : ℕ). Some m) (sym bests.l2));
      l1_has = subst (λ d. has_page sh d ≡ true) (sym (l1_is sh R o b p)) (page_when sh (first_block sh e.number) (omega (arith, from1)) at1.1);
      l2_has = page_when sh (l2_of sh (extents_of R o) i) (omega (arith, from2)) at2.1;
    }

-- the record, by what they told
pub class_drafted : (sh : Shape) (R : List Record) (o b : ℕ) (c : BlockClass) (l : Levels) (v w : ℕ) → l ≡ levels_of sh R o b
    → best_in (min (b - l.l1) MOST_EXTENT_BLOCKS) (class_code c) (page_of sh R l.l1) ≡ Some v → best_in (l.index % EXTENTS_OF_L2) v (page_of sh R l.l2) ≡ Some w
    → is_shape sh ≡ true → IsLawful sh R → IsTable R o → IsRowBlock sh R o b
    → ◌≡◌ {A = ClassRecord} (record { obj = o; dba = b; class = c; l2 = l.l2; l3 = l.l3; index = l.index; best_of_l1 = v; best_of_l2 = w }) (class_to sh R o b c)
class_drafted sh R o b c l v w e p q s h t x =
    let told = bests_told sh R o b c s h t x in
    let first : v ≡ best_in_l1 sh (reclassed sh R o b c) o (index_of sh (extents_of R o) b) = some_inside _ _ (sym (subst (λ (z : Levels). best_in (min (b - z.l1) MOST_EXTENT_BLOCKS) (class_code c) (page_of sh R z.l1) ≡ Some v) e p) ∙ told.l1) in
    let second : w ≡ best_in_l2 sh (reclassed sh R o b c) o (group_start (index_of sh (extents_of R o) b)) = some_inside _ _ (sym (subst (λ (z : Levels). best_in (z.index % EXTENTS_OF_L2) v (page_of sh R z.l2) ≡ Some w) e q) ∙ told.l2 v first) in
    ap (λ (z : Levels). record { obj = o; dba = b; class = c; l2 = z.l2; l3 = z.l3; index = z.index; best_of_l1 = v; best_of_l2 = w }) e
    ∙ ap₂ (λ (n m : ℕ). class_with sh R o b c n m) first second

pub first_value : (sh : Shape) (R : List Record) (o b : ℕ) (c : BlockClass) (l : Levels) (v : ℕ) → l ≡ levels_of sh R o b → best_in (min (b - l.l1) MOST_EXTENT_BLOCKS) (class_code c) (page_of sh R l.l1) ≡ Some v
    → is_shape sh ≡ true → IsLawful sh R → IsTable R o → IsRowBlock sh R o b → v ≡ best_in_l1 sh (reclassed sh R o b c) o (index_of sh (extents_of R o) b)
first_value sh R o b c l v e p s h t x = some_inside _ _ (sym (subst (λ (z : Levels). best_in (min (b - z.l1) MOST_EXTENT_BLOCKS) (class_code c) (page_of sh R z.l1) ≡ Some v) e p) ∙ (bests_told sh R o b c s h t x).l1)

-- ---- its code

pub code_told : (sh : Shape) (R : List Record) (b code : ℕ) (c : BlockClass) → is_formatted sh R b ≡ true → code ≡ code_of sh R b → not (eqb (class_code c) code) ≡ is_other R b c
code_told sh R b code c y e = ap (λ n. not (eqb (class_code c) n)) (e ∙ cond-true (is_formatted sh R b) (class_code (kept_class R b)) 0 y)

-- ---- the header

pub block_header : {D : Type 0} (meaning : Meaning D) (R : List Record) (o b : ℕ) (s : Held D) (g : Segment) (p : Page) → HasBlock meaning R o b s → IsSegment s.shape R o g → p ≡ page_of s.shape R g.header → SaysHeader R o p
block_header meaning R o b s g p h is e = header_says s.shape R o g.header p h.holds.list.within h.holds.lawful h.table is.header e

pub header_there : {D : Type 0} (meaning : Meaning D) (R : List Record) (o b : ℕ) (s : Held D) (g : Segment) → HasBlock meaning R o b s → IsSegment s.shape R o g → has_page s.shape g.header ≡ true
header_there meaning R o b s g h is = header_at_has s.shape R o g.header h.holds.list.within h.holds.lawful h.table is.header

pub table_extents : {D : Type 0} (meaning : Meaning D) (R : List Record) (o b : ℕ) (s : Held D) (k : Shape) → HasBlock meaning R o b s → k ≡ s.shape → HasExtents k R o
table_extents meaning R o b s k h e = subst (λ (z : Shape). HasExtents z R o) (sym e) (tables_have_extents s.shape R o h.holds.lawful h.table)

pub block_index : {D : Type 0} (meaning : Meaning D) (R : List Record) (o b : ℕ) (s : Held D) (k : Shape) → HasBlock meaning R o b s → k ≡ s.shape → index_of k (extents_of R o) b < length (extents_of R o)
block_index meaning R o b s k h e = subst (λ (z : Shape). index_of z (extents_of R o) b < length (extents_of R o)) (sym e) (index_within s.shape R o b (placed_in s.shape R o b h.holds.list.within h.holds.lawful h.table h.here))

number_has : (es : List Extent) (i x : ℕ) → number_at es i ≡ Some x → has_extent es x ≡ true
number_has [] i x h = absurd (let z : ◌≡◌ {A = Option ℕ} None (Some x) = h in cc)
number_has (e ∷ es) zero x h = let same : e.number ≡ x = (let z : ◌≡◌ {A = Option ℕ} (Some e.number) (Some x) = h in cc) in or_left _ _ (eq-eqb e.number x same)
number_has (e ∷ es) (suc i) x h = or_right (eqb e.number x) _ (number_has es i x h)

-- a block of a whole extent is one of the store
pub whole_has : (sh : Shape) (x n : ℕ) → is_extent sh x ≡ true → n < sh.extent → block_or_none sh x n ≡ None → ⊥
whole_has sh x n w l h =
    let k = leb-true (first_block sh x + sh.extent) sh.blocks w in
    let y : ltb (first_block sh x + n) sh.blocks ≡ true = lt-ltb _ _ (omega (arith, k, l)) in
    (let z : ◌≡◌ {A = Option ℕ} (Some (first_block sh x + n)) None = sym (cond-true _ _ _ y) ∙ h in cc)

pub table_has : (sh : Shape) (R : List Record) (o i x n : ℕ) → HasExtents sh R o → number_at (extents_of R o) i ≡ Some x → n < sh.extent → block_or_none sh x n ≡ None → ⊥
table_has sh R o i x n e at l h = whole_has sh x n (e.whole x (number_has (extents_of R o) i x at)) l h
