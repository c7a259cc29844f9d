-- What is drafted from pages is what the list drafts.
use Rattle.std.proofs.Common.{◌≡◌, ℕ, zero, suc, ◌+◌, ◌<◌, ◌≤◌, min, true, ltb, List, [], ◌∷◌, ◌++◌, length, Option, Some, None, refl, sym, ◌∙◌, ap, ap₂, arith, inl, inr, leb-true, lt-ltb, eq-eqb, eqb}
use Rattle.seg_words.proofs.Lemmas.{cond-true, cond-false, cases_Bool, or_left, or_right}
use Rattle.seg_words.specs.Types.{Shape, first_block, is_extent, ADVANCE_BLOCKS}
use Rattle.redo_model.specs.Records.{Record, AdvanceRecord, ExtendRecord}
use Rattle.redo_model.specs.Model.{Extent, extents_of, extent_at, block_in, has_extent, l2_of, group_start, data_blocks}
use Rattle.mark_laws.specs.Drafts.{drafted_advance, drafted_extend, with_extent}
use Rattle.mark_laws.specs.There.{HasExtents}
use Rattle.mark_laws.proofs.SameRecords.{advance_same, extend_same}
use Rattle.data_places.specs.Places.{data_count, block_or_none}
use Rattle.data_places.proofs.PlacesLaw.{counts_are_told}
use Rattle.segment_read.specs.declared.segment.Segment.{Segment}
use Rattle.segment_read.specs.Segments.{IsSegment, number_at}

-- an Advance

pub advance_says : (sh : Shape) (R : List Record) (o : ℕ) (s : Segment) (count high : ℕ) → count ≡ data_count sh s.extents → high ≡ min (s.high + ADVANCE_BLOCKS) count → IsSegment sh R o s
    → ◌≡◌ {A = AdvanceRecord} (record { obj = s.obj; header = s.header; low = s.high; high = high }) (drafted_advance sh R o)
advance_says sh R o s count high c h is =
    let all : count ≡ length (data_blocks sh R o) = c ∙ ap (data_count sh) is.extents ∙ sym (counts_are_told sh (extents_of R o)) in
    advance_same _ (drafted_advance sh R o) is.obj is.header is.high (h ∙ ap₂ (λ x y. min (x + ADVANCE_BLOCKS) y) is.high all)

-- blocks of extents

number_has : (es : List Extent) (i x : ℕ) → number_at es i ≡ Some x → has_extent es x ≡ true
number_has [] i x h = absurd (let z : ◌≡◌ {A = Option ℕ} None (Some x) = h in cc)
number_has (e ∷ es) zero x h = let same : e.number ≡ x = (let z : ◌≡◌ {A = Option ℕ} (Some e.number) (Some x) = h in cc) in or_left _ _ (eq-eqb e.number x same)
number_has (e ∷ es) (suc i) x h = or_right (eqb e.number x) _ (number_has es i x h)

-- a block of a whole extent is one of the store
pub whole_has : (sh : Shape) (x n : ℕ) → is_extent sh x ≡ true → n < sh.extent → block_or_none sh x n ≡ None → ⊥
whole_has sh x n w l h =
    let k = leb-true (first_block sh x + sh.extent) sh.blocks w in
    let y : ltb (first_block sh x + n) sh.blocks ≡ true = lt-ltb _ _ (omega (arith, k, l)) in
    (let z : ◌≡◌ {A = Option ℕ} (Some (first_block sh x + n)) None = sym (cond-true _ _ _ y) ∙ h in cc)

pub table_has : (sh : Shape) (R : List Record) (o i x n : ℕ) → HasExtents sh R o → number_at (extents_of R o) i ≡ Some x → n < sh.extent → block_or_none sh x n ≡ None → ⊥
table_has sh R o i x n e at l h = whole_has sh x n (e.whole x (number_has (extents_of R o) i x at)) l h

-- one more extent

at_before : (es : List Extent) (x : Extent) (n : ℕ) → n < length es → extent_at (es ++ x ∷ []) n ≡ extent_at es n
at_before [] x n l = absurd (omega (arith, l))
at_before (e ∷ es) x zero l = refl
at_before (e ∷ es) x (suc n) l = at_before es x n (omega (arith, l))

at_end : (es : List Extent) (x : Extent) (n : ℕ) → n ≡ length es → extent_at (es ++ x ∷ []) n ≡ Some x
at_end [] x zero l = refl
at_end [] x (suc n) l = absurd (omega (arith, l))
at_end (e ∷ es) x zero l = absurd (omega (arith, l))
at_end (e ∷ es) x (suc n) l = at_end es x n (omega (arith, l))

pub l2_before : (sh : Shape) (R : List Record) (o x start : ℕ) (s : Segment) → IsSegment sh R o s → start ≡ group_start s.extents → start < s.extents
    → block_in sh (extent_at (extents_of R o) start) 1 ≡ l2_of sh (with_extent R o x) (length (extents_of R o))
l2_before sh R o x start s is g l =
    let es = extents_of R o in
    let same : start ≡ group_start (length es) = g ∙ ap group_start is.extents in
    let n = is.extents in
    let before : start < length es = omega (arith, l, n) in
    ap (λ (e : Option Extent). block_in sh e 1) (sym (at_before es (record { number = x; incarnation = suc (length R) }) start before) ∙ ap (extent_at (with_extent R o x)) same)

pub l2_new : (sh : Shape) (R : List Record) (o x start : ℕ) (s : Segment) → IsSegment sh R o s → start ≡ group_start s.extents → s.extents ≤ start → start ≤ s.extents
    → first_block sh x + 1 ≡ l2_of sh (with_extent R o x) (length (extents_of R o))
l2_new sh R o x start s is g l m =
    let es = extents_of R o in
    let n = is.extents in
    let same : group_start (length es) ≡ length es = sym (ap group_start is.extents) ∙ sym g ∙ (let z : start ≡ length es = omega (arith, l, m, n) in z) in
    sym (ap (λ (e : Option Extent). block_in sh e 1) (at_end es (record { number = x; incarnation = suc (length R) }) (group_start (length es)) same))

pub extend_says : (sh : Shape) (R : List Record) (o x l2 l3 : ℕ) (s : Segment) → IsSegment sh R o s → HasExtents sh R o → l2 ≡ l2_of sh (with_extent R o x) (length (extents_of R o)) → l3 ≡ block_in sh (extent_at (extents_of R o) 0) 2
    → ◌≡◌ {A = ExtendRecord} (record { obj = s.obj; header = s.header; index = s.extents; extent = x; l2 = l2; l3 = l3 }) (drafted_extend sh R o x)
extend_says sh R o x l2 l3 s is e p q =
    let first : extent_at (extents_of R o) 0 ≡ extent_at (with_extent R o x) 0 = (let one = e.one in sym (at_before (extents_of R o) (record { number = x; incarnation = suc (length R) }) 0 (omega (arith, one)))) in
    extend_same _ (drafted_extend sh R o x) is.obj (is.header ∙ ap (λ (z : Option Extent). block_in sh z 3) first) is.extents refl p (q ∙ ap (λ (z : Option Extent). block_in sh z 2) first)

pub block_is : (sh : Shape) (x n d : ℕ) → block_or_none sh x n ≡ Some d → d ≡ first_block sh x + n
block_is sh x n d h = elim (cases_Bool (ltb (first_block sh x + n) sh.blocks)) [
  | inl y ↦ (let z : ◌≡◌ {A = Option ℕ} (Some (first_block sh x + n)) (Some d) = sym (cond-true _ _ _ y) ∙ h in cc)
  | inr f ↦ absurd (let z : ◌≡◌ {A = Option ℕ} None (Some d) = sym (cond-false _ _ _ f) ∙ h in cc)
]
