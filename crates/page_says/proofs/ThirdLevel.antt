-- The page of a third level: one induction over the list.
use Rattle.std.proofs.Common.{◌≡◌, ℕ, zero, suc, ◌+◌, ◌*◌, ◌/◌, ◌%◌, ◌<◌, Bool, true, false, cond, ◌&&◌, eqb, List, [], ◌∷◌, length, take, replicate, slice_index, slice_set, Option, Some, None, refl, sym, ◌∙◌, ap, subst, arith, inl, inr, true≢false}
use Rattle.std.proofs.lemmas.Bool.{cases_Bool, eqb-true, eqb-false, eq-eqb, ne_eqb, cond-true, cond-false, or_left, or_right, and_parts}
use Rattle.std.proofs.lemmas.List.{get_or-set_same, get_or-set_other, length-set}
use Rattle.seg_words.specs.Types.{MOST_EXTENTS, EXTENTS_OF_L2}
use Rattle.seg_base.specs.declared.shape.Shape.{Shape}
use Rattle.seg_base.specs.Places.{first_block, is_shape}
use Rattle.bitmap_block.specs.Pages.{Summary}
use Rattle.redo_record.specs.declared.record.Record.{Record}
use Rattle.redo_record.specs.declared.record.Record.TheVariants.{Table, Extend, FormatBlock, Class, Lower, Reuse}
use Rattle.redo_record.specs.declared.space.ExtendRecord.{ExtendRecord}
use Rattle.redo_record.specs.declared.space.FormatBlockRecord.{FormatBlockRecord}
use Rattle.redo_record.specs.declared.space.ClassRecord.{ClassRecord}
use Rattle.redo_record.specs.declared.space.LowerRecord.{LowerRecord}
use Rattle.redo_model.specs.Kept.{best_in_l2, best_in_group}
use Rattle.redo_model.specs.Segments.{Extent, extents_of, data_blocks, high_mark, extent_at, block_in, group_start, l3_of}
use Rattle.redo_model.specs.AllowedTables.{StatesBitmaps, l2_at}
use Rattle.redo_model.specs.Lawful.{AreAllowed}
use Rattle.redo_laws.specs.Among.{is_in}
use Rattle.redo_laws.proofs.lists.Bools.{off}
use Rattle.redo_laws.proofs.numbers.Bounds.{limits}
use Rattle.redo_laws.proofs.space.Places.{contains_in, in_take, format_first}
use Rattle.space_laws.specs.Bests.{names_l2}
use Rattle.space_laws.specs.Extents.{IsHead}
use Rattle.space_laws.proofs.BestsLaw.{bests_stay, bests_are_stated}
use Rattle.space_laws.proofs.ExtentsLaw.{same_place, each_block_has_one_role}
use Rattle.space_laws.proofs.IncarnationsLaw.{at_in_taken}
use Rattle.sort_laws.proofs.SortsLaw.{has_table, has_number}
use Rattle.sort_laws.proofs.MeetsLaw.{records_meet_sorts}
use Rattle.page_set.specs.declared.page.Page.{Page}
use Rattle.page_set.specs.declared.page.Page.TheVariants as pages
use Rattle.page_set.specs.Among.{is_among}
use Rattle.page_set.specs.Pages.{dba_of, new_header, new_rows, new_undo, new_first, new_second, new_third}
use Rattle.page_set.specs.Started.{or_kept, started}
use Rattle.page_set.specs.Changes.{page_after, changed_page}
use Rattle.page_set.specs.Folded.{touched, first_of, page_of, those}
use Rattle.page_set.specs.Says.{Says}
use Rattle.page_set.proofs.SaysLaw.{says, dba_says}
use Rattle.page_fit.proofs.HeaderApart.{home_in}
use Rattle.page_fit.proofs.LowPages.{untouched}
use Rattle.page_fit.proofs.Sorted.{no_among}
use Rattle.page_says.specs.Levels.{ThirdSays, SaysThird, ThirdLevelsSay}
use Rattle.page_says.proofs.HeadPages.{third_page, touched_page, either_page, not_block, stands, new_extent, extend_at, zero_at}
use Rattle.page_says.proofs.Groups.{group_number}

-- each page of a third level says what it should
abbrev ThirdsSay : Shape → List Record → Type 0
ThirdsSay sh R = (o : ℕ) (e : Extent) → extent_at (extents_of R o) 0 ≡ Some e → (m : Summary) → page_of sh R (first_block sh e.number + 2) ≡ pages.Third m → ThirdSays sh R o m

-- of a third level; nothing of other pages
abbrev OnThird : (Summary → Type 0) → Page → Type 0
OnThird P (pages.Third n) = P n
OnThird P _ = Unit {0}

third_head : (sh : Shape) (R : List Record) (o : ℕ) (e : Extent) → AreAllowed sh R → extent_at (extents_of R o) 0 ≡ Some e → IsHead sh R o 0 2 (first_block sh e.number + 2)
third_head sh R o e h at = record { table = has_table sh R o 0 e h at; extent = e; at = at; place = omega arith; block = refl }

-- ---- a record that leaves the codes

same_third : (sh : Shape) (R S : List Record) (o : ℕ) (m n : Summary) → ThirdSays sh R o m → n.codes ≡ m.codes → ((j : ℕ) → best_in_l2 sh S o (EXTENTS_OF_L2 * j) ≡ best_in_l2 sh R o (EXTENTS_OF_L2 * j)) → ThirdSays sh S o n
same_third sh R S o m n x k same = record {
  count = ap (λ (cs : List ℕ). length cs) k ∙ x.count;
  code = λ j lt. ap (λ (cs : List ℕ). slice_index cs j) k ∙ x.code j lt ∙ sym (same j);
}

abbrev Kept : Summary → Summary → Type 0
Kept m n = n.codes ≡ m.codes

quiet : (sh : Shape) (R : List Record) (r : Record) (o : ℕ) (e : Extent) → is_shape sh ≡ true → AreAllowed sh (r ∷ R) → ThirdsSay sh R → extent_at (extents_of R o) 0 ≡ Some e
    → ((m : Summary) → m.dba ≡ first_block sh e.number + 2 → OnThird (Kept m) (changed_page r (suc (length R)) (pages.Third m))) → ((j : ℕ) → names_l2 r o j ≡ false)
    → (n : Summary) → page_of sh (r ∷ R) (first_block sh e.number + 2) ≡ pages.Third n → ThirdSays sh (r ∷ R) o n
quiet sh R r o e s h f at keep none n q =
    let d : ℕ = first_block sh e.number + 2 in
    let k = third_page sh R o e s h.0 at in
    let number = has_number sh R o 0 e h.0 at in
    let dba : k.0.dba ≡ d = subst (Says R d) k.1 (says sh R d) in
    let kept : OnThird (Kept k.0) (pages.Third n) = subst (OnThird (Kept k.0)) q (either_page (OnThird (Kept k.0)) sh R r d (pages.Third k.0) k.1 (keep k.0 dba) refl) in
    same_third sh R (r ∷ R) o k.0 n (f o e at k.0 k.1) kept (λ j. (bests_stay sh R r o h number.least number.most).l2 (EXTENTS_OF_L2 * j) (none (EXTENTS_OF_L2 * j)))

-- ---- a record that names a group

abbrev Coded : ℕ → ℕ → Summary → Summary → Type 0
Coded v c m n = n.codes ≡ slice_set m.codes v c

coded_third : (sh : Shape) (R S : List Record) (o start v c : ℕ) (m n : Summary) → ThirdSays sh R o m → Coded v c m n → v < 3 → start ≡ EXTENTS_OF_L2 * v
    → best_in_l2 sh S o start ≡ c → ((j : ℕ) → (start ≡ j → ⊥) → best_in_l2 sh S o j ≡ best_in_l2 sh R o j) → ThirdSays sh S o n
coded_third sh R S o start v c m n x k small at code others = record {
  count = ap (λ (cs : List ℕ). length cs) k ∙ length-set m.codes v c ∙ x.count;
  code = λ j lt. ap (λ (cs : List ℕ). slice_index cs j) k ∙ elim (cases_Bool (eqb j v)) [
    | inl y ↦
        let same : j ≡ v = eqb-true j v y in
        let count = x.count in
        ap (λ (l : ℕ). slice_index (slice_set m.codes v c) l) same
        ∙ get_or-set_same m.codes v c 0 (omega (arith, count, small))
        ∙ sym code
        ∙ ap (best_in_l2 sh S o) (at ∙ ap (λ (l : ℕ). EXTENTS_OF_L2 * l) (sym same))
    | inr f ↦
        let other : j ≡ v → ⊥ = eqb-false j v f in
        get_or-set_other m.codes v j c 0 other
        ∙ x.code j lt
        ∙ sym (others (EXTENTS_OF_L2 * j) (λ z. other (omega (arith, z, at))))
  ];
}

-- the record touches the third level of its table, and no other one
group_step : (sh : Shape) (R : List Record) (r : Record) (obj index c o : ℕ) (e : Extent) → is_shape sh ≡ true → AreAllowed sh (r ∷ R) → ThirdsSay sh R → extent_at (extents_of R o) 0 ≡ Some e → index < MOST_EXTENTS
    → (obj ≡ o → is_among (touched sh r) (first_block sh e.number + 2) ≡ true)
    → ((obj ≡ o → ⊥) → is_among (touched sh r) (first_block sh e.number + 2) ≡ false)
    → ((m : Summary) → m.dba ≡ first_block sh e.number + 2 → OnThird (Coded (index / EXTENTS_OF_L2) c m) (changed_page r (suc (length R)) (pages.Third m)))
    → best_in_l2 sh (r ∷ R) obj (group_start index) ≡ c → ((j : ℕ) → (eqb obj o && eqb (group_start index) j) ≡ false → names_l2 r o j ≡ false)
    → (n : Summary) → page_of sh (r ∷ R) (first_block sh e.number + 2) ≡ pages.Third n → ThirdSays sh (r ∷ R) o n
group_step sh R r obj index c o e s h f at few own other changed best names n q =
    let d : ℕ = first_block sh e.number + 2 in
    let k = third_page sh R o e s h.0 at in
    let number = has_number sh R o 0 e h.0 at in
    let stay = (bests_stay sh R r o h number.least number.most).l2 in
    let dba : k.0.dba ≡ d = subst (Says R d) k.1 (says sh R d) in
    elim (cases_Bool (eqb obj o)) [
      | inl y ↦
          let table : obj ≡ o = eqb-true obj o y in
          let page = touched_page sh R r d (pages.Third k.0) (own table) k.1 in
          let is : OnThird (Coded (index / EXTENTS_OF_L2) c k.0) (pages.Third n) = subst (OnThird (Coded (index / EXTENTS_OF_L2) c k.0)) (sym page ∙ q) (changed k.0 dba) in
          coded_third sh R (r ∷ R) o (group_start index) (index / EXTENTS_OF_L2) c k.0 n (f o e at k.0 k.1) is (omega (arith, few)) (group_number index few)
          (subst (λ (x : ℕ). best_in_l2 sh (r ∷ R) x (group_start index) ≡ c) table best)
          (λ j ne. stay j (names j (off _ (λ z. ne (eqb-true (group_start index) j (and_parts (eqb obj o) (eqb (group_start index) j) z).1)))))
      | inr z ↦
          let is : OnThird (Kept k.0) (pages.Third n) = subst (OnThird (Kept k.0)) (sym k.1 ∙ untouched sh R r d (other (eqb-false obj o z)) ∙ q) refl in
          same_third sh R (r ∷ R) o k.0 n (f o e at k.0 k.1) is (λ j. stay (EXTENTS_OF_L2 * j) (names (EXTENTS_OF_L2 * j) (ap (λ (v : Bool). v && eqb (group_start index) (EXTENTS_OF_L2 * j)) z)))
    ]

-- where the third level of a table stands
l3_is : (sh : Shape) (R : List Record) (obj l3 o : ℕ) (e : Extent) → l3 ≡ l3_of sh (extents_of R obj) → obj ≡ o → extent_at (extents_of R o) 0 ≡ Some e → l3 ≡ first_block sh e.number + 2
l3_is sh R obj l3 o e is same at = is ∙ ap (λ (p : ℕ). block_in sh (extent_at (extents_of R p) 0) 2) same ∙ ap (λ (x : Option Extent). block_in sh x 2) at

-- that of another table stands elsewhere
l3_not : (sh : Shape) (R : List Record) (obj l3 o d : ℕ) (e : Extent) → is_shape sh ≡ true → AreAllowed sh R → l3 ≡ l3_of sh (extents_of R obj) → (obj ≡ o → ⊥) → extent_at (extents_of R o) 0 ≡ Some e → d ≡ first_block sh e.number + 2 → d ≡ l3 → ⊥
l3_not sh R obj l3 o d e s h is ne at place same = go (extent_at (extents_of R obj) 0) refl
  where
    go : (x : Option Extent) → extent_at (extents_of R obj) 0 ≡ x → ⊥
    go None n = (let z : l3 ≡ 0 = is ∙ ap (λ (x : Option Extent). block_in sh x 2) n in omega (arith, z, place, same))
    go (Some g) n =
        let w = (limits sh s).extent_from in
        let other : d ≡ first_block sh g.number + 2 = same ∙ is ∙ ap (λ (x : Option Extent). block_in sh x 2) n in
        ne ((same_place sh R obj o 0 0 d g e h (has_number sh R obj 0 g h n) (has_number sh R o 0 e h at) n at (omega (arith, other)) (omega (arith, other, w)) (omega (arith, place)) (omega (arith, place, w))).0)

-- the bitmaps of a data block of table obj
maps_apart : (sh : Shape) (R : List Record) (obj b l2 l3 index o : ℕ) (e : Extent) → is_shape sh ≡ true → AreAllowed sh R → StatesBitmaps sh R obj b l2 l3 index → is_in b (data_blocks sh R obj) ≡ true
    → extent_at (extents_of R o) 0 ≡ Some e → (obj ≡ o → ⊥) → is_among (l2 ∷ l3 ∷ first_of sh b ∷ []) (first_block sh e.number + 2) ≡ false
maps_apart sh R obj b l2 l3 index o e s h m here at other =
    let d : ℕ = first_block sh e.number + 2 in
    let lim = limits sh s in
    let w = stands sh R obj b lim here in
    no_among l2 (l3 ∷ first_of sh b ∷ []) d (not_block sh e.number 2 1 d l2 (extent_at (extents_of R obj) (group_start index)) lim (omega arith) (omega arith) (λ x. omega (arith, x)) refl m.l2_is)
    ∙ no_among l3 (first_of sh b ∷ []) d (l3_not sh R obj l3 o d e s h m.l3_is other at refl)
    ∙ no_among (first_of sh b) [] d (not_block sh e.number 2 0 d (first_of sh b) (Some w.extent) lim (omega arith) (omega arith) (λ x. omega (arith, x)) refl (let x = w.first in omega (arith, x)))

format_step : (sh : Shape) (R : List Record) (x : FormatBlockRecord) (o : ℕ) (e : Extent) → is_shape sh ≡ true → AreAllowed sh (FormatBlock x ∷ R) → ThirdsSay sh R → extent_at (extents_of R o) 0 ≡ Some e
    → (n : Summary) → page_of sh (FormatBlock x ∷ R) (first_block sh e.number + 2) ≡ pages.Third n → ThirdSays sh (FormatBlock x ∷ R) o n
format_step sh R x o e s h f at n q =
    let d : ℕ = first_block sh e.number + 2 in
    let a = h.1.kind in
    let lsn = suc (length R) in
    let here = in_take x.dba (high_mark R x.obj) (data_blocks sh R x.obj) (format_first sh R x a).0 in
    let out : d ≡ x.dba → ⊥ = λ y. (each_block_has_one_role sh R s h.0).no_data o x.obj 0 2 d (third_head sh R o e h.0 at) a.table (contains_in (data_blocks sh R x.obj) d (subst (λ (b : ℕ). is_in b (data_blocks sh R x.obj) ≡ true) (sym y) here)) in
    group_step sh R (FormatBlock x) x.obj x.index x.best_of_l2 o e s h f at ((records_meet_sorts sh R (FormatBlock x) s h).format x refl).few
    (λ y. or_right (eqb x.dba d) _ (or_right (eqb x.l2 d) _ (or_left (eqb x.l3 d) _ (eq-eqb x.l3 d (l3_is sh R x.obj x.l3 o e a.bitmaps.l3_is y at)))))
    (λ y. no_among x.dba (x.l2 ∷ x.l3 ∷ first_of sh x.dba ∷ []) d out ∙ maps_apart sh R x.obj x.dba x.l2 x.l3 x.index o e s h.0 a.bitmaps here at y)
    (λ m is. subst (λ (v : Bool). OnThird (Coded (x.index / EXTENTS_OF_L2) x.best_of_l2 m) (page_after (FormatBlock x) lsn (or_kept (cond v (Some (new_rows m.dba)) None) (pages.Third m)))) (sym (ne_eqb x.dba m.dba (λ w. out (sym is ∙ sym w)))) refl)
    ((bests_are_stated sh R).format_l2 x h) (λ j y. y) n q

class_step : (sh : Shape) (R : List Record) (x : ClassRecord) (o : ℕ) (e : Extent) → is_shape sh ≡ true → AreAllowed sh (Class x ∷ R) → ThirdsSay sh R → extent_at (extents_of R o) 0 ≡ Some e
    → (n : Summary) → page_of sh (Class x ∷ R) (first_block sh e.number + 2) ≡ pages.Third n → ThirdSays sh (Class x ∷ R) o n
class_step sh R x o e s h f at n q =
    let d : ℕ = first_block sh e.number + 2 in
    let a = h.1.kind in
    group_step sh R (Class x) x.obj x.index x.best_of_l2 o e s h f at ((records_meet_sorts sh R (Class x) s h).class x refl).few
    (λ y. or_right (eqb x.l2 d) _ (or_left (eqb x.l3 d) _ (eq-eqb x.l3 d (l3_is sh R x.obj x.l3 o e a.bitmaps.l3_is y at))))
    (λ y. maps_apart sh R x.obj x.dba x.l2 x.l3 x.index o e s h.0 a.bitmaps (home_in sh R x.obj x.dba a.here) at y)
    (λ m is. refl)
    ((bests_are_stated sh R).class_l2 x h) (λ j y. y) n q

-- ---- a table gets an extent

-- a page of a third level is left by an Extend, but where it is made anew
extend_keeps : (P : Summary → Type 0) (r : Record) (lsn : ℕ) (m : Summary) (b3 bh b2 bi b c : Bool) (q2 q3 q1 : ℕ) → (b && c) ≡ false → OnThird P (page_after r lsn (pages.Third m))
    → OnThird P (page_after r lsn (or_kept (cond b3 None (cond bh None (cond b2 (cond bi (Some (new_second q2)) None) (cond b (cond c (Some (new_third q3)) None) (Some (new_first q1 lsn)))))) (pages.Third m)))
extend_keeps P r lsn m true bh b2 bi b c q2 q3 q1 f p = p
extend_keeps P r lsn m false true b2 bi b c q2 q3 q1 f p = p
extend_keeps P r lsn m false false true true b c q2 q3 q1 f p = tt
extend_keeps P r lsn m false false true false b c q2 q3 q1 f p = p
extend_keeps P r lsn m false false false bi true true q2 q3 q1 f p = absurd (true≢false f)
extend_keeps P r lsn m false false false bi true false q2 q3 q1 f p = p
extend_keeps P r lsn m false false false bi false c q2 q3 q1 f p = tt

old_step : (sh : Shape) (R : List Record) (x : ExtendRecord) (o : ℕ) (e : Extent) → is_shape sh ≡ true → AreAllowed sh (Extend x ∷ R) → ThirdsSay sh R → extent_at (extents_of R o) 0 ≡ Some e → extent_at (extents_of (Extend x ∷ R) o) 0 ≡ Some e
    → (n : Summary) → page_of sh (Extend x ∷ R) (first_block sh e.number + 2) ≡ pages.Third n → ThirdSays sh (Extend x ∷ R) o n
old_step sh R x o e s h f at now n q =
    let S : List Record = Extend x ∷ R in
    let a = h.1.kind in
    quiet sh R (Extend x) o e s h f at
    (λ m is. extend_keeps (Kept m) (Extend x) (suc (length R)) m (eqb m.dba 3) (eqb m.dba x.header) (eqb m.dba x.l2) (eqb (x.index % EXTENTS_OF_L2) 0) (eqb m.dba x.l3) (eqb x.index 0) m.dba m.dba m.dba
    (off _ (λ y.
    let p = and_parts (eqb m.dba x.l3) (eqb x.index 0) y in
    let other : x.obj ≡ o → ⊥ = λ t.
    let none : length (extents_of R o) ≡ 0 = sym (subst (λ (p : ℕ). x.index ≡ length (extents_of R p)) t a.index) ∙ eqb-true x.index 0 p.1 in
    some (extents_of R o) e at none in
    l3_not sh S x.obj x.l3 o m.dba e s h a.l3 other now is (eqb-true m.dba x.l3 p.0)))
    refl)
    (λ j. refl) n q
  where
    some : (es : List Extent) (e : Extent) → extent_at es 0 ≡ Some e → length es ≡ 0 → ⊥
    some [] e at z = (let v : ◌≡◌ {A = Option Extent} None (Some e) = at in cc)
    some (y ∷ es) e at z = omega (arith, z)

abbrev Made : Summary → Type 0
Made n = n.codes ≡ replicate 3 0

-- the first extent of a table
new_step : (sh : Shape) (R : List Record) (x : ExtendRecord) (o : ℕ) → is_shape sh ≡ true → AreAllowed sh (Extend x ∷ R) → x.obj ≡ o → 0 ≡ length (extents_of R o) → extent_at (extents_of (Extend x ∷ R) o) 0 ≡ Some (new_extent R x)
    → (n : Summary) → page_of sh (Extend x ∷ R) (first_block sh x.extent + 2) ≡ pages.Third n → ThirdSays sh (Extend x ∷ R) o n
new_step sh R x o s h table last now n q =
    let S : List Record = Extend x ∷ R in
    let d : ℕ = first_block sh x.extent + 2 in
    let p = page_of sh R d in
    let lsn = suc (length R) in
    let a = h.1.kind in
    let lim = limits sh s in
    let number = has_number sh S o 0 (new_extent R x) h now in
    let stay = (bests_stay sh R (Extend x) o h number.least number.most).l2 in
    let index : x.index ≡ 0 = subst (λ (p : ℕ). x.index ≡ length (extents_of R p)) table a.index ∙ sym last in
    let at : x.l3 ≡ d = l3_is sh S x.obj x.l3 o (new_extent R x) a.l3 table now in
    let dba : dba_of p ≡ d = dba_says R d p (says sh R d) in
    let among : is_among (touched sh (Extend x)) d ≡ true = or_right (eqb 3 d) _ (or_right (eqb x.header d) _ (or_right (eqb x.l2 d) _ (or_left (eqb x.l3 d) _ (eq-eqb x.l3 d at)))) in
    let made : started (Extend x) lsn p ≡ Some (new_third (dba_of p)) =
    cond-false _ _ _ (ne_eqb (dba_of p) 3 (λ y. omega (arith, y, dba)))
    ∙ cond-false _ _ _ (ne_eqb (dba_of p) x.header (not_block sh x.extent 2 3 (dba_of p) x.header (extent_at (extents_of S x.obj) 0) lim (omega arith) (omega arith) (λ y. omega (arith, y)) dba a.header))
    ∙ cond-false _ _ _ (ne_eqb (dba_of p) x.l2 (not_block sh x.extent 2 1 (dba_of p) x.l2 (extent_at (extents_of S x.obj) (group_start x.index)) lim (omega arith) (omega arith) (λ y. omega (arith, y)) dba a.l2))
    ∙ cond-true _ _ _ (eq-eqb (dba_of p) x.l3 (dba ∙ sym at))
    ∙ cond-true _ _ _ (eq-eqb x.index 0 index) in
    let changed : changed_page (Extend x) lsn p ≡ page_after (Extend x) lsn (new_third (dba_of p)) = ap (λ (o : Option Page). page_after (Extend x) lsn (or_kept o p)) made in
    let is : OnThird Made (pages.Third n) = subst (OnThird Made) (sym changed ∙ sym (touched_page sh R (Extend x) d p among refl) ∙ q) refl in
    record {
      count = ap (λ (cs : List ℕ). length cs) is;
      code = λ j lt. ap (λ (cs : List ℕ). slice_index cs j) is ∙ zero_at 3 j ∙ sym (stay (EXTENTS_OF_L2 * j) refl ∙ none (extents_of R o) (EXTENTS_OF_L2 * j) last);
    }
  where
    none : (es : List Extent) (k : ℕ) → 0 ≡ length es → best_in_group sh R k 0 es ≡ 0
    none [] k z = refl
    none (y ∷ es) k z = absurd (omega (arith, z))

extend_step : (sh : Shape) (R : List Record) (x : ExtendRecord) (o : ℕ) (e : Extent) → is_shape sh ≡ true → AreAllowed sh (Extend x ∷ R) → ThirdsSay sh R → extent_at (extents_of (Extend x ∷ R) o) 0 ≡ Some e
    → (n : Summary) → page_of sh (Extend x ∷ R) (first_block sh e.number + 2) ≡ pages.Third n → ThirdSays sh (Extend x ∷ R) o n
extend_step sh R x o e s h f at n q = elim (extend_at R x o 0 e at) [
  | inl y ↦ old_step sh R x o e s h f y at n q
  | inr z ↦ subst (λ (v : Extent). extent_at (extents_of (Extend x ∷ R) o) 0 ≡ Some v → page_of sh (Extend x ∷ R) (first_block sh v.number + 2) ≡ pages.Third n → ThirdSays sh (Extend x ∷ R) o n) z.2 (λ now page. new_step sh R x o s h z.0 z.1 now n page) at q
]

-- ---- marks are lowered

abbrev Stated : List ℕ → Summary → Summary → Type 0
Stated bs m n = n.codes ≡ slice_set (slice_set (slice_set m.codes 0 (slice_index bs 0)) 1 (slice_index bs 1)) 2 (slice_index bs 2)

three_set : (codes : List ℕ) (a b c : ℕ) → length codes ≡ 3 → slice_set (slice_set (slice_set codes 0 a) 1 b) 2 c ≡ a ∷ b ∷ c ∷ []
three_set [] a b c e = absurd (omega (arith, e))
three_set (x ∷ []) a b c e = absurd (omega (arith, e))
three_set (x ∷ y ∷ []) a b c e = absurd (omega (arith, e))
three_set (x ∷ y ∷ z ∷ []) a b c e = refl
three_set (x ∷ y ∷ z ∷ w ∷ cs) a b c e = absurd (omega (arith, e))

three_at : (f : ℕ → ℕ) (j : ℕ) → j < 3 → slice_index (f 0 ∷ f EXTENTS_OF_L2 ∷ f (2 * EXTENTS_OF_L2) ∷ []) j ≡ f (EXTENTS_OF_L2 * j)
three_at f zero lt = refl
three_at f (suc zero) lt = refl
three_at f (suc (suc zero)) lt = refl
three_at f (suc (suc (suc j))) lt = absurd (omega (arith, lt))

-- of its own table
own_lower : (sh : Shape) (R : List Record) (l : LowerRecord) (o : ℕ) (e : Extent) → is_shape sh ≡ true → AreAllowed sh (Lower l ∷ R) → ThirdsSay sh R → l.obj ≡ o → extent_at (extents_of R o) 0 ≡ Some e
    → (n : Summary) → page_of sh (Lower l ∷ R) (first_block sh e.number + 2) ≡ pages.Third n → ThirdSays sh (Lower l ∷ R) o n
own_lower sh R l o e s h f table at n q =
    let S : List Record = Lower l ∷ R in
    let d : ℕ = first_block sh e.number + 2 in
    let k = third_page sh R o e s h.0 at in
    let x = f o e at k.0 k.1 in
    let l3 : l.l3 ≡ d = l3_is sh R l.obj l.l3 o e h.1.kind.l3 table at in
    let among : is_among (touched sh (Lower l)) d ≡ true = or_right (eqb 3 d) _ (or_right (eqb l.header d) _ (or_left (eqb l.l3 d) _ (eq-eqb l.l3 d l3))) in
    let is : OnThird (Stated l.bests k.0) (pages.Third n) = subst (OnThird (Stated l.bests k.0)) (sym (touched_page sh R (Lower l) d (pages.Third k.0) among k.1) ∙ q) refl in
    let bests : l.bests ≡ best_in_l2 sh S o 0 ∷ best_in_l2 sh S o EXTENTS_OF_L2 ∷ best_in_l2 sh S o (2 * EXTENTS_OF_L2) ∷ [] =
    subst (λ (p : ℕ). l.bests ≡ best_in_l2 sh S p 0 ∷ best_in_l2 sh S p EXTENTS_OF_L2 ∷ best_in_l2 sh S p (2 * EXTENTS_OF_L2) ∷ []) table ((bests_are_stated sh R).lower_l2 l h) in
    let codes : n.codes ≡ best_in_l2 sh S o 0 ∷ best_in_l2 sh S o EXTENTS_OF_L2 ∷ best_in_l2 sh S o (2 * EXTENTS_OF_L2) ∷ [] =
    is ∙ three_set k.0.codes (slice_index l.bests 0) (slice_index l.bests 1) (slice_index l.bests 2) x.count ∙ ap (λ (bs : List ℕ). slice_index bs 0 ∷ slice_index bs 1 ∷ slice_index bs 2 ∷ []) bests in
    record {
      count = ap (λ (cs : List ℕ). length cs) codes;
      code = λ j lt. ap (λ (cs : List ℕ). slice_index cs j) codes ∙ three_at (best_in_l2 sh S o) j lt;
    }

those_apart : (sh : Shape) (x : Option Extent) (e : Extent) (os : List (Option ℕ)) → is_shape sh ≡ true → is_among (those os) (first_block sh e.number + 2) ≡ false → is_among (those (l2_at sh x ∷ os)) (first_block sh e.number + 2) ≡ false
those_apart sh None e os s rest = rest
those_apart sh (Some y) e os s rest =
    no_among (first_block sh y.number + 1) (those os) (first_block sh e.number + 2) (not_block sh e.number 2 1 (first_block sh e.number + 2) (first_block sh y.number + 1) (Some y) (limits sh s) (omega arith) (omega arith) (λ z. omega (arith, z)) refl refl) ∙ rest

-- of another table
other_lower : (sh : Shape) (R : List Record) (l : LowerRecord) (o : ℕ) (e : Extent) → is_shape sh ≡ true → AreAllowed sh (Lower l ∷ R) → ThirdsSay sh R → eqb l.obj o ≡ false → extent_at (extents_of R o) 0 ≡ Some e
    → (n : Summary) → page_of sh (Lower l ∷ R) (first_block sh e.number + 2) ≡ pages.Third n → ThirdSays sh (Lower l ∷ R) o n
other_lower sh R l o e s h f other at n q =
    let d : ℕ = first_block sh e.number + 2 in
    let a = h.1.kind in
    let lim = limits sh s in
    let es : List Extent = take l.kept (extents_of R l.obj) in
    let number = has_number sh R o 0 e h.0 at in
    let k = third_page sh R o e s h.0 at in
    let none : is_among (touched sh (Lower l)) d ≡ false =
    no_among 3 (l.header ∷ l.l3 ∷ those l.l2) d (λ y. omega (arith, y))
    ∙ no_among l.header (l.l3 ∷ those l.l2) d (not_block sh e.number 2 3 d l.header (extent_at (extents_of R l.obj) 0) lim (omega arith) (omega arith) (λ y. omega (arith, y)) refl a.header)
    ∙ no_among l.l3 (those l.l2) d (l3_not sh R l.obj l.l3 o d e s h.0 a.l3 (eqb-false l.obj o other) at refl)
    ∙ ap (λ (os : List (Option ℕ)). is_among (those os) d) a.l2
    ∙ those_apart sh (extent_at es 0) e (l2_at sh (extent_at es EXTENTS_OF_L2) ∷ l2_at sh (extent_at es (2 * EXTENTS_OF_L2)) ∷ []) s
    (those_apart sh (extent_at es EXTENTS_OF_L2) e (l2_at sh (extent_at es (2 * EXTENTS_OF_L2)) ∷ []) s (those_apart sh (extent_at es (2 * EXTENTS_OF_L2)) e [] s refl)) in
    let is : OnThird (Kept k.0) (pages.Third n) = subst (OnThird (Kept k.0)) (sym k.1 ∙ untouched sh R (Lower l) d none ∙ q) refl in
    same_third sh R (Lower l ∷ R) o k.0 n (f o e at k.0 k.1) is (λ j. (bests_stay sh R (Lower l) o h number.least number.most).l2 (EXTENTS_OF_L2 * j) other)

lower_step : (sh : Shape) (R : List Record) (l : LowerRecord) (o : ℕ) (e : Extent) → is_shape sh ≡ true → AreAllowed sh (Lower l ∷ R) → ThirdsSay sh R → extent_at (extents_of (Lower l ∷ R) o) 0 ≡ Some e
    → (n : Summary) → page_of sh (Lower l ∷ R) (first_block sh e.number + 2) ≡ pages.Third n → ThirdSays sh (Lower l ∷ R) o n
lower_step sh R l o e s h f at n q = elim (cases_Bool (eqb l.obj o)) [
  | inl y ↦ own_lower sh R l o e s h f (eqb-true l.obj o y) (at_in_taken l.kept (extents_of R o) 0 e (ap (λ (es : List Extent). extent_at es 0) (sym (cond-true (eqb l.obj o) (take l.kept (extents_of R o)) (extents_of R o) y)) ∙ at)).0 n q
  | inr w ↦ other_lower sh R l o e s h f w (ap (λ (es : List Extent). extent_at es 0) (sym (cond-false (eqb l.obj o) (take l.kept (extents_of R o)) (extents_of R o) w)) ∙ at) n q
]

-- ---- the induction

thirds_step : (sh : Shape) (R : List Record) (r : Record) → is_shape sh ≡ true → AreAllowed sh (r ∷ R) → ThirdsSay sh R → ThirdsSay sh (r ∷ R)
thirds_step sh R (Extend x) s h f o e at n q = extend_step sh R x o e s h f at n q
thirds_step sh R (FormatBlock r) s h f o e at n q = format_step sh R r o e s h f at n q
thirds_step sh R (Class r) s h f o e at n q = class_step sh R r o e s h f at n q
thirds_step sh R (Lower r) s h f o e at n q = lower_step sh R r o e s h f at n q
thirds_step sh R (Table t) s h f o e at n q = quiet sh R (Table t) o e s h f at
    (λ m is. elim (eqb m.dba 2) as (λ v. OnThird (Kept m) (page_after (Table t) (suc (length R)) (or_kept (cond v None (Some (new_header m.dba t))) (pages.Third m)))) [ true ↦ refl | false ↦ tt ])
    (λ j. refl) n q
thirds_step sh R (Reuse r) s h f o e at n q = quiet sh R (Reuse r) o e s h f at
    (λ m is. elim (eqb r.block m.dba) as (λ v. OnThird (Kept m) (page_after (Reuse r) (suc (length R)) (or_kept (cond v (Some (new_undo m.dba r.sequence)) None) (pages.Third m)))) [ true ↦ tt | false ↦ refl ])
    (λ j. refl) n q
thirds_step sh R r s h f o e at n q = quiet sh R r o e s h f at (λ m is. refl) (λ j. refl) n q

thirds : (sh : Shape) (R : List Record) → is_shape sh ≡ true → AreAllowed sh R → ThirdsSay sh R
thirds sh [] s h = λ o e at. absurd (let z : ◌≡◌ {A = Option Extent} None (Some e) = at in cc)
thirds sh (r ∷ R) s h = thirds_step sh R r s h (thirds sh R s h.0)

pub third_levels_say : ThirdLevelsSay
third_levels_say sh R o e s h at =
    let k = third_page sh R o e s h at in
    let place : page_of sh R (block_in sh (extent_at (extents_of R o) 0) 2) ≡ pages.Third k.0 = ap (λ (x : Option Extent). page_of sh R (block_in sh x 2)) at ∙ k.1 in
    subst (SaysThird sh R o) (sym place) (thirds sh R s h o e at k.0 k.1)
