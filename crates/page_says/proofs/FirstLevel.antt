-- The page of an extent's first level: one induction over the list.
use Rattle.std.proofs.Common.{◌≡◌, ℕ, suc, ◌+◌, ◌-◌, ◌<◌, ◌≤◌, min, Bool, true, false, cond, ◌||◌, eqb, ltb, leb, List, [], ◌∷◌, length, take, replicate, slice_index, slice_set, Option, Some, None, refl, sym, ◌∙◌, ap, subst, arith, inl, inr, ltb-true, le-leb, lt-ltb}
use Rattle.std.proofs.lemmas.Bool.{cases_Bool, eqb-true, eqb-false, eq-eqb, ne_eqb, cond-true, cond-false, or_left, or_right, and_parts, leb-true}
use Rattle.std.proofs.lemmas.List.{get_or-set_same, get_or-set_other, length-set}
use Rattle.seg_words.specs.Types.{MOST_EXTENT_BLOCKS}
use Rattle.seg_words.proofs.Lemmas.{and_from}
use Rattle.seg_base.specs.Classes.{class_code}
use Rattle.seg_base.specs.declared.shape.Shape.{Shape}
use Rattle.seg_base.specs.Places.{first_block, head_blocks, is_extent, is_shape}
use Rattle.bitmap_block.specs.Pages.{ExtentMap}
use Rattle.redo_record.specs.declared.record.Record.{Record}
use Rattle.redo_record.specs.declared.record.Record.TheVariants.{Table, Extend, FormatBlock, Class, Lower, Reuse}
use Rattle.redo_record.specs.declared.space.ExtendRecord.{ExtendRecord}
use Rattle.redo_record.specs.declared.space.FormatBlockRecord.{FormatBlockRecord}
use Rattle.redo_record.specs.declared.space.ClassRecord.{ClassRecord}
use Rattle.redo_model.specs.Kept.{kept_class, code_of}
use Rattle.redo_model.specs.Segments.{Extent, extents_of, data_blocks, extent_data, high_mark, in_extent, is_formatted, has_extent, extent_at, group_start, IsTable}
use Rattle.redo_model.specs.AllowedTables.{StatesBitmaps}
use Rattle.redo_model.specs.Lawful.{AreAllowed}
use Rattle.redo_laws.specs.Among.{is_in}
use Rattle.redo_laws.proofs.numbers.Bounds.{limits}
use Rattle.redo_laws.proofs.space.Places.{in_take, data_in_extent, same_extent, segments, a_table, free_has, format_first}
use Rattle.space_laws.proofs.ExtentsLaw.{found_has, range_in, same_place}
use Rattle.space_laws.proofs.IncarnationsLaw.{at_in_taken}
use Rattle.sort_laws.proofs.SortsLaw.{has_number}
use Rattle.page_set.specs.declared.page.Page.{Page}
use Rattle.page_set.specs.declared.page.Page.TheVariants as pages
use Rattle.page_set.specs.Among.{is_among}
use Rattle.page_set.specs.Pages.{dba_of, new_header, new_rows, new_undo, new_first}
use Rattle.page_set.specs.Started.{or_kept}
use Rattle.page_set.specs.Changes.{page_after, changed_page}
use Rattle.page_set.specs.Folded.{touched, first_of, page_of}
use Rattle.page_set.specs.Says.{Says}
use Rattle.page_set.proofs.SaysLaw.{says, dba_says}
use Rattle.page_fit.proofs.HeaderApart.{one_place, home_in}
use Rattle.page_fit.proofs.LowPages.{untouched}
use Rattle.page_fit.proofs.Sorted.{no_among}
use Rattle.page_says.specs.Levels.{told_code, FirstSays, SaysFirst, FirstLevelsSay}
use Rattle.page_says.proofs.HeadPages.{first_page, touched_page, either_page, not_block, stands, new_extent, extend_at, zero_at}

-- each page of a first level says what it should
abbrev FirstsSay : Shape → List Record → Type 0
FirstsSay sh R = (o i : ℕ) (e : Extent) → extent_at (extents_of R o) i ≡ Some e → (m : ExtentMap) → page_of sh R (first_block sh e.number) ≡ pages.First m → FirstSays sh R i e m

-- of a first level; nothing of other pages
abbrev OnFirst : (ExtentMap → Type 0) → Page → Type 0
OnFirst P (pages.First n) = P n
OnFirst P _ = Unit {0}

-- ---- a record that leaves the page as it is, but for the LSN

abbrev Kept : ExtentMap → ExtentMap → Type 0
Kept m n = (n.incarnation ≡ m.incarnation) × (n.codes ≡ m.codes)

told_same : (sh : Shape) (R S : List Record) (i x b : ℕ) → (is_in b (extent_data sh i x) ≡ true → code_of sh S b ≡ code_of sh R b) → told_code sh S i x b ≡ told_code sh R i x b
told_same sh R S i x b same =
    (elim (is_in b (extent_data sh i x)) as (λ v. is_in b (extent_data sh i x) ≡ v → cond v (code_of sh S b) 0 ≡ cond v (code_of sh R b) 0) [ true ↦ λ y. same y | false ↦ λ y. refl ]) refl

same_first : (sh : Shape) (R S : List Record) (i : ℕ) (e : Extent) (m n : ExtentMap) → FirstSays sh R i e m → Kept m n → ((b : ℕ) → is_in b (extent_data sh i e.number) ≡ true → code_of sh S b ≡ code_of sh R b) → FirstSays sh S i e n
same_first sh R S i e m n x k same = record {
  incarnation = k.0 ∙ x.incarnation;
  count = ap (λ (cs : List ℕ). length cs) k.1 ∙ x.count;
  code = λ j lt. ap (λ (cs : List ℕ). slice_index cs j) k.1 ∙ x.code j lt ∙ sym (told_same sh R S i e.number (first_block sh e.number + j) (same (first_block sh e.number + j)));
}

quiet : (sh : Shape) (R : List Record) (r : Record) (o i : ℕ) (e : Extent) → is_shape sh ≡ true → AreAllowed sh R → FirstsSay sh R → extent_at (extents_of R o) i ≡ Some e
    → ((m : ExtentMap) → OnFirst (Kept m) (changed_page r (suc (length R)) (pages.First m))) → ((b : ℕ) → code_of sh (r ∷ R) b ≡ code_of sh R b)
    → (n : ExtentMap) → page_of sh (r ∷ R) (first_block sh e.number) ≡ pages.First n → FirstSays sh (r ∷ R) i e n
quiet sh R r o i e s h f at keep same n q =
    let k = first_page sh R o i e s h at in
    let kept : OnFirst (Kept k.0) (pages.First n) = subst (OnFirst (Kept k.0)) q (either_page (OnFirst (Kept k.0)) sh R r (first_block sh e.number) (pages.First k.0) k.1 (keep k.0) (refl, refl)) in
    same_first sh R (r ∷ R) i e k.0 n (f o i e at k.0 k.1) kept (λ b y. same b)

-- ---- a record that names a data block

abbrev pub Coded : ℕ → ℕ → ExtentMap → ExtentMap → Type 0
Coded v c m n = (n.incarnation ≡ m.incarnation) × (n.codes ≡ slice_set m.codes v c)

pub coded_first : (sh : Shape) (R S : List Record) (i b c v : ℕ) (e : Extent) (m n : ExtentMap) → FirstSays sh R i e m → Coded v c m n → first_block sh e.number + v ≡ b → v < MOST_EXTENT_BLOCKS → is_in b (extent_data sh i e.number) ≡ true
    → code_of sh S b ≡ c → ((x : ℕ) → (b ≡ x → ⊥) → code_of sh S x ≡ code_of sh R x) → FirstSays sh S i e n
coded_first sh R S i b c v e m n x k at small here code others = record {
  incarnation = k.0 ∙ x.incarnation;
  count = ap (λ (cs : List ℕ). length cs) k.1 ∙ length-set m.codes v c ∙ x.count;
  code = λ j lt. ap (λ (cs : List ℕ). slice_index cs j) k.1 ∙ elim (cases_Bool (eqb j v)) [
    | inl y ↦
        let same : j ≡ v = eqb-true j v y in
        let count = x.count in
        ap (λ (l : ℕ). slice_index (slice_set m.codes v c) l) same
        ∙ get_or-set_same m.codes v c 0 (omega (arith, count, small))
        ∙ sym code
        ∙ sym (cond-true (is_in b (extent_data sh i e.number)) (code_of sh S b) 0 here)
        ∙ ap (told_code sh S i e.number) (sym at ∙ ap (λ (l : ℕ). first_block sh e.number + l) (sym same))
    | inr f ↦
        let other : j ≡ v → ⊥ = eqb-false j v f in
        get_or-set_other m.codes v j c 0 other
        ∙ x.code j lt
        ∙ sym (told_same sh R S i e.number (first_block sh e.number + j) (λ y. others (first_block sh e.number + j) (λ z. other (omega (arith, z, at)))))
  ];
}

-- the record touches the extent's first block where the block stands in that extent, and no other extent's
block_step : (sh : Shape) (R : List Record) (r : Record) (obj b c o i : ℕ) (e : Extent) → is_shape sh ≡ true → AreAllowed sh R → FirstsSay sh R → extent_at (extents_of R o) i ≡ Some e
    → IsTable R obj → is_in b (data_blocks sh R obj) ≡ true
    → (first_of sh b ≡ first_block sh e.number → is_among (touched sh r) (first_block sh e.number) ≡ true)
    → ((first_block sh e.number ≡ first_of sh b → ⊥) → (first_block sh e.number ≡ b → ⊥) → is_among (touched sh r) (first_block sh e.number) ≡ false)
    → ((m : ExtentMap) → (b ≡ m.dba → ⊥) → OnFirst (Coded (b - m.dba) c m) (changed_page r (suc (length R)) (pages.First m)))
    → code_of sh (r ∷ R) b ≡ c → ((x : ℕ) → (b ≡ x → ⊥) → code_of sh (r ∷ R) x ≡ code_of sh R x)
    → (n : ExtentMap) → page_of sh (r ∷ R) (first_block sh e.number) ≡ pages.First n → FirstSays sh (r ∷ R) i e n
block_step sh R r obj b c o i e s h f at table here own other changed code others n q =
    let d : ℕ = first_block sh e.number in
    let lim = limits sh s in
    let k = first_page sh R o i e s h at in
    let w = stands sh R obj b lim here in
    let past = w.past in
    let dba : k.0.dba ≡ d = subst (Says R d) k.1 (says sh R d) in
    elim (cases_Bool (eqb w.extent.number e.number)) [
      | inl y ↦
          let number : w.extent.number ≡ e.number = eqb-true w.extent.number e.number y in
          let first : first_block sh w.extent.number ≡ d = ap (first_block sh) number in
          let from : d ≤ b = omega (arith, first, past) in
          let to : b < d + sh.extent = subst (λ (x : ℕ). b < x + sh.extent) first w.to in
          let z = same_place sh R obj o w.index i b w.extent e h (a_table sh R obj (segments sh R h) table) (has_number sh R o i e h at) w.at at (omega (arith, past)) w.to from to in
          let after : d + head_blocks i ≤ b = subst (λ (x : ℕ). x + head_blocks i ≤ b) first (subst (λ (x : ℕ). first_block sh w.extent.number + head_blocks x ≤ b) z.1 w.from) in
          let within : is_in b (extent_data sh i e.number) ≡ true = range_in b (d + head_blocks i) (sh.extent - head_blocks i) after (omega (arith, after, to)) in
          let page = touched_page sh R r d (pages.First k.0) (own (w.first ∙ first)) k.1 in
          let most = lim.extent_to in
          let is : OnFirst (Coded (b - k.0.dba) c k.0) (pages.First n) = subst (OnFirst (Coded (b - k.0.dba) c k.0)) (sym page ∙ q) (changed k.0 (λ x. omega (arith, x, dba, first, past))) in
          coded_first sh R (r ∷ R) i b c (b - k.0.dba) e k.0 n (f o i e at k.0 k.1) is (omega (arith, dba, from)) (omega (arith, dba, to, most)) within code others
      | inr z ↦
          let w8 = lim.extent_from in
          let apart : w.extent.number ≡ e.number → ⊥ = eqb-false w.extent.number e.number z in
          let out : (x : ℕ) → d ≤ x → x < d + sh.extent → b ≡ x → ⊥ = λ x l u same. apart (same_extent sh w.extent.number e.number x (omega (arith, past, same)) (subst (λ (y : ℕ). y < first_block sh w.extent.number + sh.extent) same w.to) l u) in
          let none : is_among (touched sh r) d ≡ false = other
          (λ x. apart ((one_place sh w.extent.number e.number 0 0 lim (omega arith) (omega arith) (let y : first_block sh w.extent.number ≡ d = sym w.first ∙ sym x in omega (arith, y))).0))
          (λ x. out d (omega arith) (omega (arith, w8)) (sym x)) in
          let is : OnFirst (Kept k.0) (pages.First n) = subst (OnFirst (Kept k.0)) (sym k.1 ∙ untouched sh R r d none ∙ q) (refl, refl) in
          same_first sh R (r ∷ R) i e k.0 n (f o i e at k.0 k.1) is (λ x y. (let v = data_in_extent sh i e.number x y in others x (out x v.0 v.1)))
    ]

-- the bitmaps of a data block, of which only the first level stands in the first block of an extent
maps_apart : (sh : Shape) (R : List Record) (o b l2 l3 index : ℕ) (e : Extent) → is_shape sh ≡ true → StatesBitmaps sh R o b l2 l3 index → (first_block sh e.number ≡ first_of sh b → ⊥) → is_among (l2 ∷ l3 ∷ first_of sh b ∷ []) (first_block sh e.number) ≡ false
maps_apart sh R o b l2 l3 index e s m ne =
    let d : ℕ = first_block sh e.number in
    let lim = limits sh s in
    no_among l2 (l3 ∷ first_of sh b ∷ []) d (not_block sh e.number 0 1 d l2 (extent_at (extents_of R o) (group_start index)) lim (omega arith) (omega arith) (λ x. omega (arith, x)) (omega arith) m.l2_is)
    ∙ no_among l3 (first_of sh b ∷ []) d (not_block sh e.number 0 2 d l3 (extent_at (extents_of R o) 0) lim (omega arith) (omega arith) (λ x. omega (arith, x)) (omega arith) m.l3_is)
    ∙ no_among (first_of sh b) [] d ne

maps_among : (sh : Shape) (b l2 l3 d : ℕ) → first_of sh b ≡ d → is_among (l2 ∷ l3 ∷ first_of sh b ∷ []) d ≡ true
maps_among sh b l2 l3 d e = or_right (eqb l2 d) _ (or_right (eqb l3 d) _ (or_left (eqb (first_of sh b) d) false (eq-eqb (first_of sh b) d e)))

format_step : (sh : Shape) (R : List Record) (f : FormatBlockRecord) (o i : ℕ) (e : Extent) → is_shape sh ≡ true → AreAllowed sh (FormatBlock f ∷ R) → FirstsSay sh R → extent_at (extents_of R o) i ≡ Some e
    → (n : ExtentMap) → page_of sh (FormatBlock f ∷ R) (first_block sh e.number) ≡ pages.First n → FirstSays sh (FormatBlock f ∷ R) i e n
format_step sh R f o i e s h before at n q =
    let d : ℕ = first_block sh e.number in
    let a = h.1.kind in
    let lsn = suc (length R) in
    let here = in_take f.dba (high_mark R f.obj) (data_blocks sh R f.obj) (format_first sh R f a).0 in
    block_step sh R (FormatBlock f) f.obj f.dba 5 o i e s h.0 before at a.table here
    (λ x. or_right (eqb f.dba d) _ (maps_among sh f.dba f.l2 f.l3 d x))
    (λ x y. no_among f.dba (f.l2 ∷ f.l3 ∷ first_of sh f.dba ∷ []) d y ∙ maps_apart sh R f.obj f.dba f.l2 f.l3 f.index e s a.bitmaps x)
    (λ m ne. subst (λ (v : Bool). OnFirst (Coded (f.dba - m.dba) 5 m) (page_after (FormatBlock f) lsn (or_kept (cond v (Some (new_rows m.dba)) None) (pages.First m)))) (sym (ne_eqb f.dba m.dba ne)) (refl, refl))
    (subst (λ (v : Bool). cond (v || is_formatted sh R f.dba) (class_code (kept_class (FormatBlock f ∷ R) f.dba)) 0 ≡ 5) (sym (eq-eqb f.dba f.dba refl)) (ap class_code (cond-true _ _ _ (eq-eqb f.dba f.dba refl))))
    (λ x ne. format_code sh R f x (ne_eqb f.dba x ne))
    n q
  where
    format_code : (sh : Shape) (R : List Record) (f : FormatBlockRecord) (b : ℕ) → eqb f.dba b ≡ false → code_of sh (FormatBlock f ∷ R) b ≡ code_of sh R b
    format_code sh R f b x = rw x refl

class_step : (sh : Shape) (R : List Record) (k : ClassRecord) (o i : ℕ) (e : Extent) → is_shape sh ≡ true → AreAllowed sh (Class k ∷ R) → FirstsSay sh R → extent_at (extents_of R o) i ≡ Some e
    → (n : ExtentMap) → page_of sh (Class k ∷ R) (first_block sh e.number) ≡ pages.First n → FirstSays sh (Class k ∷ R) i e n
class_step sh R k o i e s h before at n q =
    let d : ℕ = first_block sh e.number in
    let a = h.1.kind in
    block_step sh R (Class k) k.obj k.dba (class_code k.class) o i e s h.0 before at a.table (home_in sh R k.obj k.dba a.here)
    (λ x. maps_among sh k.dba k.l2 k.l3 d x)
    (λ x y. maps_apart sh R k.obj k.dba k.l2 k.l3 k.index e s a.bitmaps x)
    (λ m ne. (refl, refl))
    (cond-true (is_formatted sh R k.dba) (class_code (kept_class (Class k ∷ R) k.dba)) 0 a.here.formatted ∙ ap class_code (cond-true _ _ _ (eq-eqb k.dba k.dba refl)))
    (λ x ne. class_same sh R k x (ne_eqb k.dba x ne))
    n q
  where
    class_same : (sh : Shape) (R : List Record) (k : ClassRecord) (b : ℕ) → eqb k.dba b ≡ false → code_of sh (Class k ∷ R) b ≡ code_of sh R b
    class_same sh R k b x = rw x refl

-- ---- a table gets an extent

-- an extent that was there
old_step : (sh : Shape) (R : List Record) (x : ExtendRecord) (o i : ℕ) (e : Extent) → is_shape sh ≡ true → AreAllowed sh (Extend x ∷ R) → FirstsSay sh R → extent_at (extents_of R o) i ≡ Some e
    → (n : ExtentMap) → page_of sh (Extend x ∷ R) (first_block sh e.number) ≡ pages.First n → FirstSays sh (Extend x ∷ R) i e n
old_step sh R x o i e s h f at n q =
    let S : List Record = Extend x ∷ R in
    let d : ℕ = first_block sh e.number in
    let a = h.1.kind in
    let lim = limits sh s in
    let most = lim.most in
    let whole = leb-true (first_block sh x.extent + sh.extent) sh.blocks ((and_parts (is_extent sh x.extent) _ a.extent.free).0) in
    let b : ℕ = min (first_block sh x.extent) 4294967295 in
    let number = has_number sh R o i e h.0 at in
    let apart : x.extent ≡ e.number → ⊥ = λ y. free_has sh R o x.extent number a.extent.free (subst (λ (v : ℕ). has_extent (extents_of R o) v ≡ true) (sym y) (found_has (extents_of R o) i e at)) in
    let none : is_among (touched sh (Extend x)) d ≡ false =
    no_among 3 (x.header ∷ x.l2 ∷ x.l3 ∷ b ∷ []) d (λ y. omega (arith, y))
    ∙ no_among x.header (x.l2 ∷ x.l3 ∷ b ∷ []) d (not_block sh e.number 0 3 d x.header (extent_at (extents_of S x.obj) 0) lim (omega arith) (omega arith) (λ y. omega (arith, y)) (omega arith) a.header)
    ∙ no_among x.l2 (x.l3 ∷ b ∷ []) d (not_block sh e.number 0 1 d x.l2 (extent_at (extents_of S x.obj) (group_start x.index)) lim (omega arith) (omega arith) (λ y. omega (arith, y)) (omega arith) a.l2)
    ∙ no_among x.l3 (b ∷ []) d (not_block sh e.number 0 2 d x.l3 (extent_at (extents_of S x.obj) 0) lim (omega arith) (omega arith) (λ y. omega (arith, y)) (omega arith) a.l3)
    ∙ no_among b [] d (λ y. apart ((one_place sh x.extent e.number 0 0 lim (omega arith) (omega arith) (omega (arith, y, whole, most))).0)) in
    let k = first_page sh R o i e s h.0 at in
    let is : OnFirst (Kept k.0) (pages.First n) = subst (OnFirst (Kept k.0)) (sym k.1 ∙ untouched sh R (Extend x) d none ∙ q) (refl, refl) in
    same_first sh R S i e k.0 n (f o i e at k.0 k.1) is (λ c y. extend_code sh R x c (ne_in (in_extent sh x.extent c) (λ z.
    let v = data_in_extent sh i e.number c y in
    let p = and_parts (leb (first_block sh x.extent) c) (ltb c (first_block sh x.extent + sh.extent)) z in
    apart (same_extent sh x.extent e.number c (leb-true _ _ p.0) (ltb-true _ _ p.1) v.0 v.1))))
  where
    extend_code : (sh : Shape) (R : List Record) (x : ExtendRecord) (b : ℕ) → in_extent sh x.extent b ≡ false → code_of sh (Extend x ∷ R) b ≡ code_of sh R b
    extend_code sh R x b y = rw y refl

    ne_in : (v : Bool) → (v ≡ true → ⊥) → v ≡ false
    ne_in true f = absurd (f refl)
    ne_in false f = refl

-- none of its blocks is formatted
unformatted : (sh : Shape) (R : List Record) (x : ExtendRecord) (i b : ℕ) → told_code sh (Extend x ∷ R) i x.extent b ≡ 0
unformatted sh R x i b =
    (elim (is_in b (extent_data sh i x.extent)) as (λ v. is_in b (extent_data sh i x.extent) ≡ v → cond v (code_of sh (Extend x ∷ R) b) 0 ≡ 0) [
      | true ↦ λ y. (let r = data_in_extent sh i x.extent b y in zero_code sh R x b (and_from (leb (first_block sh x.extent) b) (ltb b (first_block sh x.extent + sh.extent)) (le-leb _ _ r.0) (lt-ltb _ _ r.1)))
      | false ↦ λ y. refl
    ]) refl
  where
    zero_code : (sh : Shape) (R : List Record) (x : ExtendRecord) (b : ℕ) → in_extent sh x.extent b ≡ true → code_of sh (Extend x ∷ R) b ≡ 0
    zero_code sh R x b y = rw y refl

abbrev Made : ℕ → ExtentMap → Type 0
Made lsn n = (n.incarnation ≡ lsn) × (n.codes ≡ replicate MOST_EXTENT_BLOCKS 0)

new_step : (sh : Shape) (R : List Record) (x : ExtendRecord) (i : ℕ) → is_shape sh ≡ true → AreAllowed sh (Extend x ∷ R)
    → (n : ExtentMap) → page_of sh (Extend x ∷ R) (first_block sh x.extent) ≡ pages.First n → FirstSays sh (Extend x ∷ R) i (new_extent R x) n
new_step sh R x i s h n q =
    let S : List Record = Extend x ∷ R in
    let d : ℕ = first_block sh x.extent in
    let p = page_of sh R d in
    let lsn = suc (length R) in
    let a = h.1.kind in
    let lim = limits sh s in
    let most = lim.most in
    let whole = leb-true (first_block sh x.extent + sh.extent) sh.blocks ((and_parts (is_extent sh x.extent) _ a.extent.free).0) in
    let b : ℕ = min (first_block sh x.extent) 4294967295 in
    let dba : dba_of p ≡ d = dba_says R d p (says sh R d) in
    let named : is_among (touched sh (Extend x)) d ≡ true = or_right (eqb 3 d) _ (or_right (eqb x.header d) _ (or_right (eqb x.l2 d) _ (or_right (eqb x.l3 d) _ (or_left (eqb b d) false (eq-eqb b d (omega (arith, whole, most))))))) in
    let three : eqb (dba_of p) 3 ≡ false = ne_eqb (dba_of p) 3 (λ y. omega (arith, y, dba)) in
    let header : eqb (dba_of p) x.header ≡ false = ne_eqb (dba_of p) x.header (not_block sh x.extent 0 3 (dba_of p) x.header (extent_at (extents_of S x.obj) 0) lim (omega arith) (omega arith) (λ y. omega (arith, y)) (omega (arith, dba)) a.header) in
    let second : eqb (dba_of p) x.l2 ≡ false = ne_eqb (dba_of p) x.l2 (not_block sh x.extent 0 1 (dba_of p) x.l2 (extent_at (extents_of S x.obj) (group_start x.index)) lim (omega arith) (omega arith) (λ y. omega (arith, y)) (omega (arith, dba)) a.l2) in
    let third : eqb (dba_of p) x.l3 ≡ false = ne_eqb (dba_of p) x.l3 (not_block sh x.extent 0 2 (dba_of p) x.l3 (extent_at (extents_of S x.obj) 0) lim (omega arith) (omega arith) (λ y. omega (arith, y)) (omega (arith, dba)) a.l3) in
    let made : changed_page (Extend x) lsn p ≡ page_after (Extend x) lsn (new_first (dba_of p) lsn) =
    ap (λ (o : Option Page). page_after (Extend x) lsn (or_kept o p)) (cond-false _ _ _ three ∙ cond-false _ _ _ header ∙ cond-false _ _ _ second ∙ cond-false _ _ _ third) in
    let is : OnFirst (Made lsn) (pages.First n) = subst (OnFirst (Made lsn)) (sym made ∙ sym (touched_page sh R (Extend x) d p named refl) ∙ q) (refl, refl) in
    record {
      incarnation = is.0;
      count = ap (λ (cs : List ℕ). length cs) is.1;
      code = λ j lt. ap (λ (cs : List ℕ). slice_index cs j) is.1 ∙ zero_at MOST_EXTENT_BLOCKS j ∙ sym (unformatted sh R x i (d + j));
    }

-- ---- the induction

firsts_step : (sh : Shape) (R : List Record) (r : Record) → is_shape sh ≡ true → AreAllowed sh (r ∷ R) → FirstsSay sh R → FirstsSay sh (r ∷ R)
firsts_step sh R (Extend x) s h f o i e at n q = elim (extend_at R x o i e at) [
  | inl y ↦ old_step sh R x o i e s h f y n q
  | inr z ↦ subst (λ (v : Extent). page_of sh (Extend x ∷ R) (first_block sh v.number) ≡ pages.First n → FirstSays sh (Extend x ∷ R) i v n) z.2 (new_step sh R x i s h n) q
]
firsts_step sh R (FormatBlock r) s h f o i e at n q = format_step sh R r o i e s h f at n q
firsts_step sh R (Class r) s h f o i e at n q = class_step sh R r o i e s h f at n q
firsts_step sh R (Lower l) s h f o i e at n q = quiet sh R (Lower l) o i e s h.0 f (lower_at l.kept (eqb l.obj o) (extents_of R o) i e at) (λ m. (refl, refl)) (λ b. refl) n q
  where
    lower_at : (k : ℕ) (own : Bool) (es : List Extent) (i : ℕ) (e : Extent) → extent_at (cond own (take k es) es) i ≡ Some e → extent_at es i ≡ Some e
    lower_at k true es i e h = (at_in_taken k es i e h).0
    lower_at k false es i e h = h
firsts_step sh R (Table t) s h f o i e at n q = quiet sh R (Table t) o i e s h.0 f at
    (λ m. elim (eqb m.dba 2) as (λ v. OnFirst (Kept m) (page_after (Table t) (suc (length R)) (or_kept (cond v None (Some (new_header m.dba t))) (pages.First m)))) [ true ↦ (refl, refl) | false ↦ tt ])
    (λ b. refl) n q
firsts_step sh R (Reuse r) s h f o i e at n q = quiet sh R (Reuse r) o i e s h.0 f at
    (λ m. elim (eqb r.block m.dba) as (λ v. OnFirst (Kept m) (page_after (Reuse r) (suc (length R)) (or_kept (cond v (Some (new_undo m.dba r.sequence)) None) (pages.First m)))) [ true ↦ tt | false ↦ (refl, refl) ])
    (λ b. refl) n q
firsts_step sh R r s h f o i e at n q = quiet sh R r o i e s h.0 f at (λ m. (refl, refl)) (λ b. refl) n q

firsts : (sh : Shape) (R : List Record) → is_shape sh ≡ true → AreAllowed sh R → FirstsSay sh R
firsts sh [] s h = λ o i e at. absurd (let z : ◌≡◌ {A = Option Extent} None (Some e) = at in cc)
firsts sh (r ∷ R) s h = firsts_step sh R r s h (firsts sh R s h.0)

pub first_levels_say : FirstLevelsSay
first_levels_say sh R o i e s h at = let k = first_page sh R o i e s h at in subst (SaysFirst sh R i e) (sym k.1) (firsts sh R s h o i e at k.0 k.1)
