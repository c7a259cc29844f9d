-- The page of a second level: one induction over the list.
use Rattle.std.proofs.Common.{◌≡◌, ℕ, zero, suc, ◌+◌, ◌-◌, ◌%◌, ◌<◌, ◌≤◌, min, Bool, true, false, cond, ◌&&◌, ◌||◌, eqb, ltb, leb, List, [], ◌∷◌, ◌++◌, length, take, drop, replicate, slice_index, slice_set, Option, Some, None, refl, sym, ◌∙◌, ap, ap₂, subst, arith, inl, inr, true≢false, ltb-true, ltb-false, ◌*◌}
use Rattle.std.proofs.lemmas.Bool.{cases_Bool, eqb-true, eqb-false, eq-eqb, ne_eqb, cond-true, cond-false, or_left, or_right, and_parts, leb-true}
use Rattle.std.proofs.lemmas.List.{get_or-set_same, get_or-set_other, length-set}
use Rattle.seg_words.specs.Types.{MOST_EXTENTS, EXTENTS_OF_L2}
use Rattle.seg_base.specs.declared.shape.Shape.{Shape}
use Rattle.seg_base.specs.Places.{first_block, head_blocks, is_extent, is_shape}
use Rattle.bitmap_block.specs.Codes.{cleared_from}
use Rattle.bitmap_block.specs.Pages.{Summary}
use Rattle.redo_record.specs.declared.record.Record.{Record}
use Rattle.redo_record.specs.declared.record.Record.TheVariants.{Table, Extend, FormatBlock, Class, Lower, Reuse}
use Rattle.redo_record.specs.declared.space.ExtendRecord.{ExtendRecord}
use Rattle.redo_record.specs.declared.space.FormatBlockRecord.{FormatBlockRecord}
use Rattle.redo_record.specs.declared.space.ClassRecord.{ClassRecord}
use Rattle.redo_record.specs.declared.space.LowerRecord.{LowerRecord}
use Rattle.redo_model.specs.Kept.{best_in_l1, best_of_found}
use Rattle.redo_model.specs.Segments.{Extent, extents_of, data_blocks, high_mark, extent_at, block_in, group_start}
use Rattle.redo_model.specs.AllowedTables.{StatesBitmaps, l2_at, all_l2}
use Rattle.redo_model.specs.Lawful.{AreAllowed}
use Rattle.redo_laws.specs.Among.{is_in}
use Rattle.redo_laws.proofs.lists.Bools.{off}
use Rattle.redo_laws.proofs.numbers.Bounds.{limits}
use Rattle.redo_laws.proofs.space.Places.{contains_in, in_take, format_first}
use Rattle.space_laws.specs.Bests.{names_l1}
use Rattle.space_laws.specs.Extents.{IsHead}
use Rattle.space_laws.proofs.BestsLaw.{bests_stay, bests_are_stated}
use Rattle.space_laws.proofs.ExtentsLaw.{group_heads, each_block_has_one_role}
use Rattle.space_laws.proofs.IncarnationsLaw.{at_in_taken}
use Rattle.sort_laws.proofs.SortsLaw.{has_table, has_number, group_twice}
use Rattle.sort_laws.proofs.MeetsLaw.{records_meet_sorts}
use Rattle.page_set.specs.declared.page.Page.{Page}
use Rattle.page_set.specs.declared.page.Page.TheVariants as pages
use Rattle.page_set.specs.Among.{is_among}
use Rattle.page_set.specs.Maps.{is_block, covered_from}
use Rattle.page_set.specs.Pages.{dba_of, new_header, new_rows, new_undo, new_second}
use Rattle.page_set.specs.Started.{or_kept, started}
use Rattle.page_set.specs.Changes.{page_after, changed_page}
use Rattle.page_set.specs.Folded.{touched, first_of, page_of, those}
use Rattle.page_set.specs.Says.{Says}
use Rattle.page_set.proofs.SaysLaw.{says, dba_says}
use Rattle.page_fit.proofs.HeaderApart.{home_in}
use Rattle.page_fit.proofs.LowPages.{untouched}
use Rattle.page_fit.proofs.Sorted.{no_among}
use Rattle.page_says.specs.Levels.{SecondSays, SaysSecond, SecondLevelsSay}
use Rattle.page_says.proofs.HeadPages.{second_page, touched_page, either_page, not_block, stands, new_extent, extend_at, zero_at}
use Rattle.page_says.proofs.Groups.{group_first, group_of, group_index, l2_is, one_second, l2_not}

-- each page of a second level says what it should
abbrev SecondsSay : Shape → List Record → Type 0
SecondsSay sh R = (o i : ℕ) (e : Extent) → extent_at (extents_of R o) i ≡ Some e → group_start i ≡ i → (m : Summary) → page_of sh R (first_block sh e.number + 1) ≡ pages.Second m → SecondSays sh R o i m

-- of a second level; nothing of other pages
abbrev OnSecond : (Summary → Type 0) → Page → Type 0
OnSecond P (pages.Second n) = P n
OnSecond P _ = Unit {0}

second_head : (sh : Shape) (R : List Record) (o i : ℕ) (e : Extent) → AreAllowed sh R → extent_at (extents_of R o) i ≡ Some e → group_start i ≡ i → IsHead sh R o i 1 (first_block sh e.number + 1)
second_head sh R o i e h at g = record { table = has_table sh R o i e h at; extent = e; at = at; place = subst (λ (k : ℕ). 2 ≤ head_blocks k) g (group_heads i); block = refl }

-- ---- a record that leaves the codes

same_second : (sh : Shape) (R S : List Record) (o i : ℕ) (m n : Summary) → SecondSays sh R o i m → n.codes ≡ m.codes → ((j : ℕ) → j < EXTENTS_OF_L2 → best_in_l1 sh S o (i + j) ≡ best_in_l1 sh R o (i + j)) → SecondSays sh S o i n
same_second sh R S o i m n x k same = record {
  count = ap (λ (cs : List ℕ). length cs) k ∙ x.count;
  code = λ j lt. ap (λ (cs : List ℕ). slice_index cs j) k ∙ x.code j lt ∙ sym (same j lt);
}

abbrev Kept : Summary → Summary → Type 0
Kept m n = n.codes ≡ m.codes

quiet : (sh : Shape) (R : List Record) (r : Record) (o i : ℕ) (e : Extent) → is_shape sh ≡ true → AreAllowed sh (r ∷ R) → SecondsSay sh R → extent_at (extents_of R o) i ≡ Some e → group_start i ≡ i
    → ((m : Summary) → OnSecond (Kept m) (changed_page r (suc (length R)) (pages.Second m))) → ((j : ℕ) → names_l1 r o j ≡ false)
    → (n : Summary) → page_of sh (r ∷ R) (first_block sh e.number + 1) ≡ pages.Second n → SecondSays sh (r ∷ R) o i n
quiet sh R r o i e s h f at g keep none n q =
    let k = second_page sh R o i e s h.0 at g in
    let number = has_number sh R o i e h.0 at in
    let kept : OnSecond (Kept k.0) (pages.Second n) = subst (OnSecond (Kept k.0)) q (either_page (OnSecond (Kept k.0)) sh R r (first_block sh e.number + 1) (pages.Second k.0) k.1 (keep k.0) refl) in
    same_second sh R (r ∷ R) o i k.0 n (f o i e at g k.0 k.1) kept (λ j lt. (bests_stay sh R r o h number.least number.most).l1 (i + j) (none (i + j)))

-- ---- a record that names an extent

abbrev pub Coded : ℕ → ℕ → Summary → Summary → Type 0
Coded v c m n = n.codes ≡ slice_set m.codes v c

pub coded_second : (sh : Shape) (R S : List Record) (o i index v c : ℕ) (m n : Summary) → SecondSays sh R o i m → Coded v c m n → v < EXTENTS_OF_L2 → i + v ≡ index
    → best_in_l1 sh S o index ≡ c → ((j : ℕ) → (index ≡ j → ⊥) → best_in_l1 sh S o j ≡ best_in_l1 sh R o j) → SecondSays sh S o i n
coded_second sh R S o i index v c m n x k small at code others = record {
  count = ap (λ (cs : List ℕ). length cs) k ∙ length-set m.codes v c ∙ x.count;
  code = λ j lt. ap (λ (cs : List ℕ). slice_index cs j) k ∙ elim (cases_Bool (eqb j v)) [
    | inl y ↦
        let same : j ≡ v = eqb-true j v y in
        let count = x.count in
        ap (λ (l : ℕ). slice_index (slice_set m.codes v c) l) same
        ∙ get_or-set_same m.codes v c 0 (omega (arith, count, small))
        ∙ sym code
        ∙ ap (best_in_l1 sh S o) (sym at ∙ ap (λ (l : ℕ). i + l) (sym same))
    | inr f ↦
        let other : j ≡ v → ⊥ = eqb-false j v f in
        get_or-set_other m.codes v j c 0 other
        ∙ x.code j lt
        ∙ sym (others (i + j) (λ z. other (omega (arith, z, at))))
  ];
}

-- the record touches the second level of the extent's group, and no other one
index_step : (sh : Shape) (R : List Record) (r : Record) (obj index c o i : ℕ) (e : Extent) → is_shape sh ≡ true → AreAllowed sh (r ∷ R) → SecondsSay sh R → extent_at (extents_of R o) i ≡ Some e → group_start i ≡ i → index < MOST_EXTENTS
    → (obj ≡ o → group_start index ≡ i → is_among (touched sh r) (first_block sh e.number + 1) ≡ true)
    → ((eqb obj o && eqb (group_start index) i) ≡ false → is_among (touched sh r) (first_block sh e.number + 1) ≡ false)
    → (obj ≡ o → group_start index ≡ i → (m : Summary) → m.dba ≡ first_block sh e.number + 1 → OnSecond (Coded (index % EXTENTS_OF_L2) c m) (changed_page r (suc (length R)) (pages.Second m)))
    → best_in_l1 sh (r ∷ R) obj index ≡ c → ((j : ℕ) → (eqb obj o && eqb index j) ≡ false → names_l1 r o j ≡ false)
    → (n : Summary) → page_of sh (r ∷ R) (first_block sh e.number + 1) ≡ pages.Second n → SecondSays sh (r ∷ R) o i n
index_step sh R r obj index c o i e s h f at g few own other changed best names n q =
    let d : ℕ = first_block sh e.number + 1 in
    let k = second_page sh R o i e s h.0 at g in
    let number = has_number sh R o i e h.0 at in
    let stay = (bests_stay sh R r o h number.least number.most).l1 in
    let dba : k.0.dba ≡ d = subst (Says R d) k.1 (says sh R d) in
    elim (cases_Bool (eqb obj o && eqb (group_start index) i)) [
      | inl y ↦
          let p = and_parts (eqb obj o) (eqb (group_start index) i) y in
          let table : obj ≡ o = eqb-true obj o p.0 in
          let start : group_start index ≡ i = eqb-true (group_start index) i p.1 in
          let page = touched_page sh R r d (pages.Second k.0) (own table start) k.1 in
          let is : OnSecond (Coded (index % EXTENTS_OF_L2) c k.0) (pages.Second n) = subst (OnSecond (Coded (index % EXTENTS_OF_L2) c k.0)) (sym page ∙ q) (changed table start k.0 dba) in
          coded_second sh R (r ∷ R) o i index (index % EXTENTS_OF_L2) c k.0 n (f o i e at g k.0 k.1) is (omega arith) (group_index index i few start)
          (subst (λ (x : ℕ). best_in_l1 sh (r ∷ R) x index ≡ c) table best)
          (λ j ne. stay j (names j (off _ (λ z. ne (eqb-true index j (and_parts (eqb obj o) (eqb index j) z).1)))))
      | inr z ↦
          let is : OnSecond (Kept k.0) (pages.Second n) = subst (OnSecond (Kept k.0)) (sym k.1 ∙ untouched sh R r d (other z) ∙ q) refl in
          same_second sh R (r ∷ R) o i k.0 n (f o i e at g k.0 k.1) is (λ j lt. stay (i + j) (names (i + j) (off _ (λ y.
          let p = and_parts (eqb obj o) (eqb index (i + j)) y in
          let start : eqb (group_start index) i ≡ true = eq-eqb (group_start index) i (ap group_start (eqb-true index (i + j) p.1) ∙ group_of i j g lt) in
          true≢false (sym (ap₂ (λ v w. v && w) p.0 start) ∙ z)))))
    ]

-- the bitmaps of a data block of table obj
maps_apart : (sh : Shape) (R : List Record) (obj b l2 l3 index o i : ℕ) (e : Extent) → is_shape sh ≡ true → AreAllowed sh R → StatesBitmaps sh R obj b l2 l3 index → is_in b (data_blocks sh R obj) ≡ true
    → extent_at (extents_of R o) i ≡ Some e → (eqb obj o && eqb (group_start index) i) ≡ false → is_among (l2 ∷ l3 ∷ first_of sh b ∷ []) (first_block sh e.number + 1) ≡ false
maps_apart sh R obj b l2 l3 index o i e s h m here at other =
    let d : ℕ = first_block sh e.number + 1 in
    let lim = limits sh s in
    let w = stands sh R obj b lim here in
    no_among l2 (l3 ∷ first_of sh b ∷ []) d (l2_not sh R obj index l2 o i d e s h m.l2_is other at refl)
    ∙ no_among l3 (first_of sh b ∷ []) d (not_block sh e.number 1 2 d l3 (extent_at (extents_of R obj) 0) lim (omega arith) (omega arith) (λ x. omega (arith, x)) refl m.l3_is)
    ∙ no_among (first_of sh b) [] d (not_block sh e.number 1 0 d (first_of sh b) (Some w.extent) lim (omega arith) (omega arith) (λ x. omega (arith, x)) refl (let x = w.first in omega (arith, x)))

format_step : (sh : Shape) (R : List Record) (x : FormatBlockRecord) (o i : ℕ) (e : Extent) → is_shape sh ≡ true → AreAllowed sh (FormatBlock x ∷ R) → SecondsSay sh R → extent_at (extents_of R o) i ≡ Some e → group_start i ≡ i
    → (n : Summary) → page_of sh (FormatBlock x ∷ R) (first_block sh e.number + 1) ≡ pages.Second n → SecondSays sh (FormatBlock x ∷ R) o i n
format_step sh R x o i e s h f at g n q =
    let d : ℕ = first_block sh e.number + 1 in
    let a = h.1.kind in
    let lsn = suc (length R) in
    let here = in_take x.dba (high_mark R x.obj) (data_blocks sh R x.obj) (format_first sh R x a).0 in
    let out : d ≡ x.dba → ⊥ = λ y. (each_block_has_one_role sh R s h.0).no_data o x.obj i 1 d (second_head sh R o i e h.0 at g) a.table (contains_in (data_blocks sh R x.obj) d (subst (λ (b : ℕ). is_in b (data_blocks sh R x.obj) ≡ true) (sym y) here)) in
    index_step sh R (FormatBlock x) x.obj x.index x.best_of_l1 o i e s h f at g ((records_meet_sorts sh R (FormatBlock x) s h).format x refl).few
    (λ y z. or_right (eqb x.dba d) _ (or_left (eqb x.l2 d) _ (eq-eqb x.l2 d (l2_is sh R x.obj x.index x.l2 o i e a.bitmaps.l2_is y z at))))
    (λ y. no_among x.dba (x.l2 ∷ x.l3 ∷ first_of sh x.dba ∷ []) d out ∙ maps_apart sh R x.obj x.dba x.l2 x.l3 x.index o i e s h.0 a.bitmaps here at y)
    (λ y z m is. subst (λ (v : Bool). OnSecond (Coded (x.index % EXTENTS_OF_L2) x.best_of_l1 m) (page_after (FormatBlock x) lsn (or_kept (cond v (Some (new_rows m.dba)) None) (pages.Second m)))) (sym (ne_eqb x.dba m.dba (λ w. out (sym is ∙ sym w)))) refl)
    ((bests_are_stated sh R).format_l1 x h) (λ j y. y) n q

class_step : (sh : Shape) (R : List Record) (x : ClassRecord) (o i : ℕ) (e : Extent) → is_shape sh ≡ true → AreAllowed sh (Class x ∷ R) → SecondsSay sh R → extent_at (extents_of R o) i ≡ Some e → group_start i ≡ i
    → (n : Summary) → page_of sh (Class x ∷ R) (first_block sh e.number + 1) ≡ pages.Second n → SecondSays sh (Class x ∷ R) o i n
class_step sh R x o i e s h f at g n q =
    let d : ℕ = first_block sh e.number + 1 in
    let a = h.1.kind in
    index_step sh R (Class x) x.obj x.index x.best_of_l1 o i e s h f at g ((records_meet_sorts sh R (Class x) s h).class x refl).few
    (λ y z. or_left (eqb x.l2 d) _ (eq-eqb x.l2 d (l2_is sh R x.obj x.index x.l2 o i e a.bitmaps.l2_is y z at)))
    (λ y. maps_apart sh R x.obj x.dba x.l2 x.l3 x.index o i e s h.0 a.bitmaps (home_in sh R x.obj x.dba a.here) at y)
    (λ y z m is. refl)
    ((bests_are_stated sh R).class_l1 x h) (λ j y. y) n q

-- ---- a table gets an extent

-- the blocks that it touches, but for the second level
extend_apart : (sh : Shape) (R : List Record) (x : ExtendRecord) (e : Extent) → is_shape sh ≡ true → AreAllowed sh (Extend x ∷ R) → (first_block sh e.number + 1 ≡ x.l2 → ⊥) → is_among (touched sh (Extend x)) (first_block sh e.number + 1) ≡ false
extend_apart sh R x e s h other =
    let S : List Record = Extend x ∷ R in
    let d : ℕ = first_block sh e.number + 1 in
    let a = h.1.kind in
    let lim = limits sh s in
    let most = lim.most in
    let whole = leb-true (first_block sh x.extent + sh.extent) sh.blocks ((and_parts (is_extent sh x.extent) _ a.extent.free).0) in
    let b : ℕ = min (first_block sh x.extent) 4294967295 in
    no_among 3 (x.header ∷ x.l2 ∷ x.l3 ∷ b ∷ []) d (λ y. omega (arith, y))
    ∙ no_among x.header (x.l2 ∷ x.l3 ∷ b ∷ []) d (not_block sh e.number 1 3 d x.header (extent_at (extents_of S x.obj) 0) lim (omega arith) (omega arith) (λ y. omega (arith, y)) refl a.header)
    ∙ no_among x.l2 (x.l3 ∷ b ∷ []) d other
    ∙ no_among x.l3 (b ∷ []) d (not_block sh e.number 1 2 d x.l3 (extent_at (extents_of S x.obj) 0) lim (omega arith) (omega arith) (λ y. omega (arith, y)) refl a.l3)
    ∙ no_among b [] d (not_block sh e.number 1 0 d b (Some (new_extent R x)) lim (omega arith) (omega arith) (λ y. omega (arith, y)) refl (omega (arith, whole, most)))

extend_touches : (x : ExtendRecord) (sh : Shape) (d : ℕ) → x.l2 ≡ d → is_among (touched sh (Extend x)) d ≡ true
extend_touches x sh d e = or_right (eqb 3 d) _ (or_right (eqb x.header d) _ (or_left (eqb x.l2 d) _ (eq-eqb x.l2 d e)))

-- the page of the second level that the record names is made anew with the first extent of its group
extend_starts : (sh : Shape) (R : List Record) (x : ExtendRecord) (lsn : ℕ) (e : Extent) (p : Page) → is_shape sh ≡ true → AreAllowed sh (Extend x ∷ R) → dba_of p ≡ first_block sh e.number + 1 → x.l2 ≡ first_block sh e.number + 1
    → started (Extend x) lsn p ≡ cond (eqb (x.index % EXTENTS_OF_L2) 0) (Some (new_second (dba_of p))) None
extend_starts sh R x lsn e p s h dba at =
    let S : List Record = Extend x ∷ R in
    let lim = limits sh s in
    cond-false _ _ _ (ne_eqb (dba_of p) 3 (λ y. omega (arith, y, dba)))
    ∙ cond-false _ _ _ (ne_eqb (dba_of p) x.header (not_block sh e.number 1 3 (dba_of p) x.header (extent_at (extents_of S x.obj) 0) lim (omega arith) (omega arith) (λ y. omega (arith, y)) dba h.1.kind.header))
    ∙ cond-true _ _ _ (eq-eqb (dba_of p) x.l2 (dba ∙ sym at))

pub at_none : (es : List Extent) (n : ℕ) → length es ≤ n → extent_at es n ≡ None
at_none [] n l = refl
at_none (e ∷ es) zero l = absurd (omega (arith, l))
at_none (e ∷ es) (suc n) l = at_none es n (omega (arith, l))

-- in a group that was there
old_step : (sh : Shape) (R : List Record) (x : ExtendRecord) (o i : ℕ) (e : Extent) → is_shape sh ≡ true → AreAllowed sh (Extend x ∷ R) → SecondsSay sh R → extent_at (extents_of R o) i ≡ Some e → extent_at (extents_of (Extend x ∷ R) o) i ≡ Some e → group_start i ≡ i
    → (n : Summary) → page_of sh (Extend x ∷ R) (first_block sh e.number + 1) ≡ pages.Second n → SecondSays sh (Extend x ∷ R) o i n
old_step sh R x o i e s h f at now g n q =
    let S : List Record = Extend x ∷ R in
    let d : ℕ = first_block sh e.number + 1 in
    let a = h.1.kind in
    let lsn = suc (length R) in
    let l2 : x.obj ≡ o → group_start x.index ≡ i → x.l2 ≡ d = λ y z. l2_is sh S x.obj x.index x.l2 o i e a.l2 y z now in
    index_step sh R (Extend x) x.obj x.index 0 o i e s h f at g a.few
    (λ y z. extend_touches x sh d (l2 y z))
    (λ y. extend_apart sh R x e s h (l2_not sh S x.obj x.index x.l2 o i d e s h a.l2 y now refl))
    (λ y z m is.
    let later : x.index % EXTENTS_OF_L2 ≡ 0 → ⊥ = λ w.
    let same : i ≡ x.index = (let v = group_index x.index i a.few z in omega (arith, v, w)) in
    let end : extent_at (extents_of R o) i ≡ None = at_none (extents_of R o) i (let v : x.index ≡ length (extents_of R o) = subst (λ (p : ℕ). x.index ≡ length (extents_of R p)) y a.index in omega (arith, v, same)) in
    (let v : ◌≡◌ {A = Option Extent} None (Some e) = sym end ∙ at in cc) in
    let none : started (Extend x) lsn (pages.Second m) ≡ None = extend_starts sh R x lsn e (pages.Second m) s h is (l2 y z) ∙ cond-false _ _ _ (ne_eqb (x.index % EXTENTS_OF_L2) 0 later) in
    subst (λ (o : Option Page). OnSecond (Coded (x.index % EXTENTS_OF_L2) 0 m) (page_after (Extend x) lsn (or_kept o (pages.Second m)))) (sym none) refl)
    ((bests_are_stated sh R).extend_l1 x h) (λ j y. y) n q

zeros_set : (v j : ℕ) → v < EXTENTS_OF_L2 → slice_index (slice_set (replicate EXTENTS_OF_L2 0) v 0) j ≡ 0
zeros_set v j lt = elim (cases_Bool (eqb j v)) [
  | inl y ↦ ap (λ (l : ℕ). slice_index (slice_set (replicate EXTENTS_OF_L2 0) v 0) l) (eqb-true j v y) ∙ get_or-set_same (replicate EXTENTS_OF_L2 0) v 0 0 lt
  | inr f ↦ get_or-set_other (replicate EXTENTS_OF_L2 0) v j 0 0 (eqb-false j v f) ∙ zero_at EXTENTS_OF_L2 j
]

abbrev Made : ℕ → Summary → Type 0
Made v n = n.codes ≡ slice_set (replicate EXTENTS_OF_L2 0) v 0

-- the first extent of its group
new_step : (sh : Shape) (R : List Record) (x : ExtendRecord) (o i : ℕ) → is_shape sh ≡ true → AreAllowed sh (Extend x ∷ R) → x.obj ≡ o → i ≡ length (extents_of R o) → extent_at (extents_of (Extend x ∷ R) o) i ≡ Some (new_extent R x) → group_start i ≡ i
    → (n : Summary) → page_of sh (Extend x ∷ R) (first_block sh x.extent + 1) ≡ pages.Second n → SecondSays sh (Extend x ∷ R) o i n
new_step sh R x o i s h table last now g n q =
    let S : List Record = Extend x ∷ R in
    let d : ℕ = first_block sh x.extent + 1 in
    let p = page_of sh R d in
    let lsn = suc (length R) in
    let a = h.1.kind in
    let number = has_number sh S o i (new_extent R x) h now in
    let stay = (bests_stay sh R (Extend x) o h number.least number.most).l1 in
    let index : x.index ≡ i = subst (λ (p : ℕ). x.index ≡ length (extents_of R p)) table a.index ∙ sym last in
    let at : x.l2 ≡ d = l2_is sh S x.obj x.index x.l2 o i (new_extent R x) a.l2 table (ap group_start index ∙ g) now in
    let dba : dba_of p ≡ d = dba_says R d p (says sh R d) in
    let whole : x.index % EXTENTS_OF_L2 ≡ 0 = elim (group_first i g) [ inl y ↦ omega (arith, y, index) | inr w ↦ elim w [ inl y ↦ omega (arith, y, index) | inr y ↦ omega (arith, y, index) ] ] in
    let made : changed_page (Extend x) lsn p ≡ page_after (Extend x) lsn (new_second (dba_of p)) =
    ap (λ (o : Option Page). page_after (Extend x) lsn (or_kept o p)) (extend_starts sh R x lsn (new_extent R x) p s h dba at ∙ cond-true _ _ _ (eq-eqb (x.index % EXTENTS_OF_L2) 0 whole)) in
    let is : OnSecond (Made (x.index % EXTENTS_OF_L2)) (pages.Second n) = subst (OnSecond (Made (x.index % EXTENTS_OF_L2))) (sym made ∙ sym (touched_page sh R (Extend x) d p (extend_touches x sh d at) refl) ∙ q) refl in
    let first : best_in_l1 sh S o i ≡ 0 = subst (λ (p : ℕ). best_in_l1 sh S p i ≡ 0) table (subst (λ (k : ℕ). best_in_l1 sh S x.obj k ≡ 0) index ((bests_are_stated sh R).extend_l1 x h)) in
    let past : (j : ℕ) → (i ≡ j → ⊥) → i ≤ j → best_in_l1 sh S o j ≡ 0 = λ j ne le.
    stay j (off _ (λ y. ne (sym index ∙ eqb-true x.index j (and_parts (eqb x.obj o) (eqb x.index j) y).1)))
    ∙ ap (best_of_found sh R j) (at_none (extents_of R o) j (omega (arith, last, le))) in
    record {
      count = ap (λ (cs : List ℕ). length cs) is ∙ length-set (replicate EXTENTS_OF_L2 0) (x.index % EXTENTS_OF_L2) 0;
      code = λ j lt. ap (λ (cs : List ℕ). slice_index cs j) is ∙ zeros_set (x.index % EXTENTS_OF_L2) j (omega arith) ∙ sym (elim (cases_Bool (eqb i (i + j))) [
        | inl y ↦ ap (best_in_l1 sh S o) (sym (eqb-true i (i + j) y)) ∙ first
        | inr w ↦ past (i + j) (eqb-false i (i + j) w) (omega arith)
      ]);
    }

extend_step : (sh : Shape) (R : List Record) (x : ExtendRecord) (o i : ℕ) (e : Extent) → is_shape sh ≡ true → AreAllowed sh (Extend x ∷ R) → SecondsSay sh R → extent_at (extents_of (Extend x ∷ R) o) i ≡ Some e → group_start i ≡ i
    → (n : Summary) → page_of sh (Extend x ∷ R) (first_block sh e.number + 1) ≡ pages.Second n → SecondSays sh (Extend x ∷ R) o i n
extend_step sh R x o i e s h f at g n q = elim (extend_at R x o i e at) [
  | inl y ↦ old_step sh R x o i e s h f y at g n q
  | inr z ↦ subst (λ (v : Extent). extent_at (extents_of (Extend x ∷ R) o) i ≡ Some v → page_of sh (Extend x ∷ R) (first_block sh v.number + 1) ≡ pages.Second n → SecondSays sh (Extend x ∷ R) o i n) z.2 (λ now page. new_step sh R x o i s h z.0 z.1 now g n page) at q
]

-- ---- marks are lowered

pub cleared_below : (n k j : ℕ) (codes : List ℕ) → length codes ≡ k → j < n → slice_index (take n codes ++ drop n (replicate k 0)) j ≡ slice_index codes j
cleared_below zero k j codes e lt = absurd (omega (arith, lt))
cleared_below (suc n) zero j [] e lt = refl
cleared_below (suc n) (suc k) j [] e lt = absurd (omega (arith, e))
cleared_below (suc n) zero j (c ∷ cs) e lt = absurd (omega (arith, e))
cleared_below (suc n) (suc k) zero (c ∷ cs) e lt = refl
cleared_below (suc n) (suc k) (suc j) (c ∷ cs) e lt = cleared_below n k j cs (omega (arith, e)) (omega (arith, lt))

pub cleared_past : (n k j : ℕ) (codes : List ℕ) → length codes ≡ k → n ≤ j → slice_index (take n codes ++ drop n (replicate k 0)) j ≡ 0
cleared_past zero k j codes e le = zero_at k j
cleared_past (suc n) zero j [] e le = refl
cleared_past (suc n) (suc k) j [] e le = absurd (omega (arith, e))
cleared_past (suc n) zero j (c ∷ cs) e le = absurd (omega (arith, e))
cleared_past (suc n) (suc k) zero (c ∷ cs) e le = absurd (omega (arith, le))
cleared_past (suc n) (suc k) (suc j) (c ∷ cs) e le = cleared_past n k j cs (omega (arith, e)) (omega (arith, le))

pub cleared_count : (n k : ℕ) (codes : List ℕ) → length codes ≡ k → length (take n codes ++ drop n (replicate k 0)) ≡ k
cleared_count zero zero codes e = refl
cleared_count zero (suc k) codes e = (let z = cleared_count zero k (drop 1 codes) (drop_count codes k e) in omega (arith, z))
  where
    drop_count : (codes : List ℕ) (k : ℕ) → length codes ≡ suc k → length (drop 1 codes) ≡ k
    drop_count [] k e = absurd (omega (arith, e))
    drop_count (c ∷ cs) k e = omega (arith, e)
cleared_count (suc n) zero [] e = refl
cleared_count (suc n) (suc k) [] e = absurd (omega (arith, e))
cleared_count (suc n) zero (c ∷ cs) e = absurd (omega (arith, e))
cleared_count (suc n) (suc k) (c ∷ cs) e = (let z = cleared_count n k cs (omega (arith, e)) in omega (arith, z))

-- the second levels of the extents that are kept

those_more : (x : Option ℕ) (os : List (Option ℕ)) (d : ℕ) → is_among (those os) d ≡ true → is_among (those (x ∷ os)) d ≡ true
those_more None os d h = h
those_more (Some b) os d h = or_right (eqb b d) _ h

those_here : (sh : Shape) (x : Option Extent) (e : Extent) (os : List (Option ℕ)) → x ≡ Some e → is_among (those (l2_at sh x ∷ os)) (first_block sh e.number + 1) ≡ true
those_here sh x e os is =
    subst (λ (y : Option Extent). is_among (those (l2_at sh y ∷ os)) (first_block sh e.number + 1) ≡ true) (sym is) (or_left (eqb (first_block sh e.number + 1) (first_block sh e.number + 1)) _ (eq-eqb (first_block sh e.number + 1) (first_block sh e.number + 1) refl))

slot_among : (sh : Shape) (es : List Extent) (i : ℕ) (e : Extent) → group_start i ≡ i → extent_at es i ≡ Some e → is_among (those (all_l2 sh es)) (first_block sh e.number + 1) ≡ true
slot_among sh es i e g at = elim (group_first i g) [
  | inl y ↦ those_here sh (extent_at es 0) e _ (subst (λ (k : ℕ). extent_at es k ≡ Some e) y at)
  | inr w ↦ those_more (l2_at sh (extent_at es 0)) _ (first_block sh e.number + 1) (elim w [
    | inl y ↦ those_here sh (extent_at es EXTENTS_OF_L2) e _ (subst (λ (k : ℕ). extent_at es k ≡ Some e) y at)
    | inr y ↦ those_more (l2_at sh (extent_at es EXTENTS_OF_L2)) _ (first_block sh e.number + 1) (those_here sh (extent_at es (2 * EXTENTS_OF_L2)) e [] (subst (λ (k : ℕ). extent_at es k ≡ Some e) y at))
  ])
]

slot_is : (sh : Shape) (x : Option Extent) (e : Extent) → x ≡ Some e → is_block (l2_at sh x) (first_block sh e.number + 1) ≡ true
slot_is sh x e is = subst (λ (y : Option Extent). is_block (l2_at sh y) (first_block sh e.number + 1) ≡ true) (sym is) (eq-eqb (first_block sh e.number + 1) (first_block sh e.number + 1) refl)

-- that of another table or another place isn't this one
slot_not : (sh : Shape) (R : List Record) (p k a o i : ℕ) (e : Extent) → is_shape sh ≡ true → AreAllowed sh R → extent_at (extents_of R o) i ≡ Some e → (p ≡ o → a ≡ i → ⊥) → is_block (l2_at sh (extent_at (take k (extents_of R p)) a)) (first_block sh e.number + 1) ≡ false
slot_not sh R p k a o i e s h at ne = go (extent_at (take k (extents_of R p)) a) refl
  where
    go : (x : Option Extent) → extent_at (take k (extents_of R p)) a ≡ x → is_block (l2_at sh x) (first_block sh e.number + 1) ≡ false
    go None y = refl
    go (Some z) y = ne_eqb (first_block sh z.number + 1) (first_block sh e.number + 1) (λ same.
        let w = one_second sh R p a o i (first_block sh e.number + 1) z e s h (at_in_taken k (extents_of R p) a z y).0 at (sym same) refl in
        ne w.0 w.1)

covered_is : (sh : Shape) (R : List Record) (k o i : ℕ) (e : Extent) → is_shape sh ≡ true → AreAllowed sh R → extent_at (take k (extents_of R o)) i ≡ Some e → group_start i ≡ i
    → covered_from (all_l2 sh (take k (extents_of R o))) (first_block sh e.number + 1) ≡ i
covered_is sh R k o i e s h at g =
    let es : List Extent = take k (extents_of R o) in
    let old = (at_in_taken k (extents_of R o) i e at).0 in
    elim (group_first i g) [
      | inl y ↦ cond-true _ _ _ (slot_is sh (extent_at es 0) e (subst (λ (j : ℕ). extent_at es j ≡ Some e) y at)) ∙ sym y
      | inr w ↦ cond-false _ _ _ (slot_not sh R o k 0 o i e s h old (λ p z. elim w [ inl y ↦ omega (arith, z, y) | inr y ↦ omega (arith, z, y) ])) ∙ elim w [
        | inl y ↦ cond-true _ _ _ (slot_is sh (extent_at es EXTENTS_OF_L2) e (subst (λ (j : ℕ). extent_at es j ≡ Some e) y at)) ∙ sym y
        | inr y ↦ cond-false _ _ _ (slot_not sh R o k EXTENTS_OF_L2 o i e s h old (λ p z. omega (arith, z, y))) ∙ sym y
      ]
    ]

abbrev Cleared : ℕ → Summary → Summary → Type 0
Cleared t m n = n.codes ≡ cleared_from EXTENTS_OF_L2 t m.codes

-- of its own table
own_lower : (sh : Shape) (R : List Record) (l : LowerRecord) (o i : ℕ) (e : Extent) → is_shape sh ≡ true → AreAllowed sh (Lower l ∷ R) → SecondsSay sh R → l.obj ≡ o → extent_at (take l.kept (extents_of R o)) i ≡ Some e → group_start i ≡ i
    → (n : Summary) → page_of sh (Lower l ∷ R) (first_block sh e.number + 1) ≡ pages.Second n → SecondSays sh (Lower l ∷ R) o i n
own_lower sh R l o i e s h f table at g n q =
    let S : List Record = Lower l ∷ R in
    let d : ℕ = first_block sh e.number + 1 in
    let lsn = suc (length R) in
    let z = at_in_taken l.kept (extents_of R o) i e at in
    let below = z.1 in
    let number = has_number sh R o i e h.0 z.0 in
    let stay = (bests_stay sh R (Lower l) o h number.least number.most).l1 in
    let k = second_page sh R o i e s h.0 z.0 g in
    let x = f o i e z.0 g k.0 k.1 in
    let dba : k.0.dba ≡ d = subst (Says R d) k.1 (says sh R d) in
    let l2 : l.l2 ≡ all_l2 sh (take l.kept (extents_of R o)) = subst (λ (p : ℕ). l.l2 ≡ all_l2 sh (take l.kept (extents_of R p))) table h.1.kind.l2 in
    let among : is_among (touched sh (Lower l)) d ≡ true = or_right (eqb 3 d) _ (or_right (eqb l.header d) _ (or_right (eqb l.l3 d) _ (ap (λ (os : List (Option ℕ)). is_among (those os) d) l2 ∙ slot_among sh (take l.kept (extents_of R o)) i e g at))) in
    let from : covered_from l.l2 k.0.dba ≡ i = ap₂ covered_from l2 dba ∙ covered_is sh R l.kept o i e s h.0 at g in
    let t : ℕ = min (l.kept - i) EXTENTS_OF_L2 in
    let is : OnSecond (Cleared t k.0) (pages.Second n) = subst (OnSecond (Cleared t k.0)) (sym (touched_page sh R (Lower l) d (pages.Second k.0) among k.1) ∙ q) (ap (λ (c : ℕ). cleared_from EXTENTS_OF_L2 (min (l.kept - c) EXTENTS_OF_L2) k.0.codes) from) in
    record {
      count = ap (λ (cs : List ℕ). length cs) is ∙ cleared_count t EXTENTS_OF_L2 k.0.codes x.count;
      code = λ j lt. ap (λ (cs : List ℕ). slice_index cs j) is ∙ elim (cases_Bool (ltb j t)) [
        | inl y ↦
            let less = ltb-true j t y in
            cleared_below t EXTENTS_OF_L2 j k.0.codes x.count less ∙ x.code j lt ∙ sym (stay (i + j) (off _ (λ w. (let v = leb-true l.kept (i + j) (and_parts (eqb l.obj o) (leb l.kept (i + j)) w).1 in omega (arith, v, less, below)))))
        | inr y ↦
            let more = ltb-false j t y in
            cleared_past t EXTENTS_OF_L2 j k.0.codes x.count more ∙ sym (subst (λ (p : ℕ). best_in_l1 sh S p (i + j) ≡ 0) table ((bests_are_stated sh R).lower_l1 l (i + j) h (omega (arith, more, lt, below))))
      ];
    }

those_apart : (sh : Shape) (R : List Record) (p k a o i : ℕ) (e : Extent) (os : List (Option ℕ)) → is_shape sh ≡ true → AreAllowed sh R → extent_at (extents_of R o) i ≡ Some e → (p ≡ o → ⊥) → is_among (those os) (first_block sh e.number + 1) ≡ false
    → is_among (those (l2_at sh (extent_at (take k (extents_of R p)) a) ∷ os)) (first_block sh e.number + 1) ≡ false
those_apart sh R p k a o i e os s h at ne rest = go (l2_at sh (extent_at (take k (extents_of R p)) a)) (slot_not sh R p k a o i e s h at (λ y z. ne y))
  where
    go : (x : Option ℕ) → is_block x (first_block sh e.number + 1) ≡ false → is_among (those (x ∷ os)) (first_block sh e.number + 1) ≡ false
    go None y = rest
    go (Some b) y = ap₂ (λ v w. v || w) y rest

-- of another table
other_lower : (sh : Shape) (R : List Record) (l : LowerRecord) (o i : ℕ) (e : Extent) → is_shape sh ≡ true → AreAllowed sh (Lower l ∷ R) → SecondsSay sh R → eqb l.obj o ≡ false → extent_at (extents_of R o) i ≡ Some e → group_start i ≡ i
    → (n : Summary) → page_of sh (Lower l ∷ R) (first_block sh e.number + 1) ≡ pages.Second n → SecondSays sh (Lower l ∷ R) o i n
other_lower sh R l o i e s h f other at g n q =
    let d : ℕ = first_block sh e.number + 1 in
    let a = h.1.kind in
    let lim = limits sh s in
    let ne : l.obj ≡ o → ⊥ = eqb-false l.obj o other in
    let es : List Extent = take l.kept (extents_of R l.obj) in
    let number = has_number sh R o i e h.0 at in
    let k = second_page sh R o i e s h.0 at g in
    let none : is_among (touched sh (Lower l)) d ≡ false =
    no_among 3 (l.header ∷ l.l3 ∷ those l.l2) d (λ y. omega (arith, y))
    ∙ no_among l.header (l.l3 ∷ those l.l2) d (not_block sh e.number 1 3 d l.header (extent_at (extents_of R l.obj) 0) lim (omega arith) (omega arith) (λ y. omega (arith, y)) refl a.header)
    ∙ no_among l.l3 (those l.l2) d (not_block sh e.number 1 2 d l.l3 (extent_at (extents_of R l.obj) 0) lim (omega arith) (omega arith) (λ y. omega (arith, y)) refl a.l3)
    ∙ ap (λ (os : List (Option ℕ)). is_among (those os) d) a.l2
    ∙ those_apart sh R l.obj l.kept 0 o i e (l2_at sh (extent_at es EXTENTS_OF_L2) ∷ l2_at sh (extent_at es (2 * EXTENTS_OF_L2)) ∷ []) s h.0 at ne
    (those_apart sh R l.obj l.kept EXTENTS_OF_L2 o i e (l2_at sh (extent_at es (2 * EXTENTS_OF_L2)) ∷ []) s h.0 at ne (those_apart sh R l.obj l.kept (2 * EXTENTS_OF_L2) o i e [] s h.0 at ne refl)) in
    let is : OnSecond (Kept k.0) (pages.Second n) = subst (OnSecond (Kept k.0)) (sym k.1 ∙ untouched sh R (Lower l) d none ∙ q) refl in
    same_second sh R (Lower l ∷ R) o i k.0 n (f o i e at g k.0 k.1) is (λ j lt. (bests_stay sh R (Lower l) o h number.least number.most).l1 (i + j) (ap (λ (v : Bool). v && leb l.kept (i + j)) other))

lower_step : (sh : Shape) (R : List Record) (l : LowerRecord) (o i : ℕ) (e : Extent) → is_shape sh ≡ true → AreAllowed sh (Lower l ∷ R) → SecondsSay sh R → extent_at (extents_of (Lower l ∷ R) o) i ≡ Some e → group_start i ≡ i
    → (n : Summary) → page_of sh (Lower l ∷ R) (first_block sh e.number + 1) ≡ pages.Second n → SecondSays sh (Lower l ∷ R) o i n
lower_step sh R l o i e s h f at g n q = elim (cases_Bool (eqb l.obj o)) [
  | inl y ↦ own_lower sh R l o i e s h f (eqb-true l.obj o y) (ap (λ (es : List Extent). extent_at es i) (sym (cond-true (eqb l.obj o) (take l.kept (extents_of R o)) (extents_of R o) y)) ∙ at) g n q
  | inr w ↦ other_lower sh R l o i e s h f w (ap (λ (es : List Extent). extent_at es i) (sym (cond-false (eqb l.obj o) (take l.kept (extents_of R o)) (extents_of R o) w)) ∙ at) g n q
]

-- ---- the induction

seconds_step : (sh : Shape) (R : List Record) (r : Record) → is_shape sh ≡ true → AreAllowed sh (r ∷ R) → SecondsSay sh R → SecondsSay sh (r ∷ R)
seconds_step sh R (Extend x) s h f o i e at g n q = extend_step sh R x o i e s h f at g n q
seconds_step sh R (FormatBlock r) s h f o i e at g n q = format_step sh R r o i e s h f at g n q
seconds_step sh R (Class r) s h f o i e at g n q = class_step sh R r o i e s h f at g n q
seconds_step sh R (Lower r) s h f o i e at g n q = lower_step sh R r o i e s h f at g n q
seconds_step sh R (Table t) s h f o i e at g n q = quiet sh R (Table t) o i e s h f at g
    (λ m. elim (eqb m.dba 2) as (λ v. OnSecond (Kept m) (page_after (Table t) (suc (length R)) (or_kept (cond v None (Some (new_header m.dba t))) (pages.Second m)))) [ true ↦ refl | false ↦ tt ])
    (λ j. refl) n q
seconds_step sh R (Reuse r) s h f o i e at g n q = quiet sh R (Reuse r) o i e s h f at g
    (λ m. elim (eqb r.block m.dba) as (λ v. OnSecond (Kept m) (page_after (Reuse r) (suc (length R)) (or_kept (cond v (Some (new_undo m.dba r.sequence)) None) (pages.Second m)))) [ true ↦ tt | false ↦ refl ])
    (λ j. refl) n q
seconds_step sh R r s h f o i e at g n q = quiet sh R r o i e s h f at g (λ m. refl) (λ j. refl) n q

seconds : (sh : Shape) (R : List Record) → is_shape sh ≡ true → AreAllowed sh R → SecondsSay sh R
seconds sh [] s h = λ o i e at. absurd (let z : ◌≡◌ {A = Option Extent} None (Some e) = at in cc)
seconds sh (r ∷ R) s h = seconds_step sh R r s h (seconds sh R s h.0)

pub second_levels_say : SecondLevelsSay
second_levels_say sh R o index e s h at =
    let i : ℕ = group_start index in
    let g : group_start i ≡ i = group_twice index in
    let k = second_page sh R o i e s h at g in
    let place : page_of sh R (block_in sh (extent_at (extents_of R o) i) 1) ≡ pages.Second k.0 = ap (λ (x : Option Extent). page_of sh R (block_in sh x 1)) at ∙ k.1 in
    subst (SaysSecond sh R o i) (sym place) (seconds sh R s h o i e at g k.0 k.1)
