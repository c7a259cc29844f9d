-- What a search finds, step by step.
use Rattle.std.proofs.Common.{◌≡◌, ℕ, ◌<◌, ◌≤◌, cond, ltb, List, length, find, Option, Some, None, refl, sym, ◌∙◌, ap, subst, arith, lt-ltb, le-ltb}
use Rattle.seg_words.proofs.Lemmas.{cond-true, cond-false}
use Rattle.seg_words.specs.Types.{Shape, MOST_EXTENTS}
use Rattle.disk_model.specs.Crash.{Meaning}
use Rattle.redo_model.specs.Records.{Record}
use Rattle.redo_model.specs.Model.{extents_of, data_blocks, high_mark, under_high, first_unformatted, IsTable}
use Rattle.mark_laws.specs.declared.step.MarkStep.TheVariants as step
use Rattle.mark_laws.specs.declared.step.Found.{Found}
use Rattle.mark_laws.specs.declared.step.Found.TheVariants as found
use Rattle.mark_laws.specs.declared.step.Refusal.{Refusal}
use Rattle.mark_laws.specs.declared.step.Refusal.TheVariants as refusal
use Rattle.mark_laws.specs.Movements.{next_growth, next_mark, extend_if, format_else, least_free}
use Rattle.mark_laws.specs.Searches.{Sought, first_hinted, block_or, mark_or, find_of, is_good, is_usable}
use Rattle.mark_laws.specs.Refusals.{refusal_of, IsRefusal}
use Rattle.mark_laws.proofs.RefusalsLaw.{refusals_mean}
use Rattle.data_places.specs.Places.{data_count}
use Rattle.data_places.proofs.PlacesLaw.{counts_are_told}
use Rattle.segment_read.specs.declared.segment.Segment.{Segment}
use Rattle.segment_read.specs.Segments.{IsSegment}
use Rattle.store_core.specs.Store.{Held, IsTrue}
use Rattle.free_search.specs.declared.look.Look.{Look}
use Rattle.free_search.specs.declared.look.Row.{Row}
use Rattle.free_search.specs.Looks.{IsLook, Knows, row_sought, sought}
use Rattle.free_search.specs.declared.fault.FindFault.{FindFault}
use Rattle.free_search.specs.Answers.{first_of, fault_of, IsRefusedBy}

-- ---- movements of the marks

counted : (R : List Record) (k : Shape) (s : Segment) (count : ℕ) → IsSegment k R s.obj s → count ≡ data_count k s.extents → count ≡ length (data_blocks k R s.obj)
counted R k s count is c = c ∙ ap (data_count k) is.extents ∙ sym (counts_are_told k (extents_of R s.obj))

pub grows_up : (R : List Record) (k : Shape) (s : Segment) (count : ℕ) → IsSegment k R s.obj s → count ≡ data_count k s.extents → s.high < count → Some step.Advance ≡ next_growth k R s.obj
grows_up R k s count is c less =
    let all = counted R k s count is c in
    let high = is.high in
    sym (cond-true _ _ _ (lt-ltb (high_mark R s.obj) (length (data_blocks k R s.obj)) (omega (arith, all, high, less))))

not_up : (R : List Record) (k : Shape) (s : Segment) (count : ℕ) → IsSegment k R s.obj s → count ≡ data_count k s.extents → count ≤ s.high → next_growth k R s.obj ≡ cond (ltb (length (extents_of R s.obj)) MOST_EXTENTS) (extend_if (least_free k R)) None
not_up R k s count is c more =
    let all = counted R k s count is c in
    let high = is.high in
    cond-false _ _ _ (le-ltb (high_mark R s.obj) (length (data_blocks k R s.obj)) (omega (arith, all, high, more)))

pub grows_no_more : (R : List Record) (k : Shape) (s : Segment) (count : ℕ) → IsSegment k R s.obj s → count ≡ data_count k s.extents → count ≤ s.high → MOST_EXTENTS ≤ s.extents → None ≡ next_growth k R s.obj
grows_no_more R k s count is c more many =
    let n = is.extents in
    sym (not_up R k s count is c more ∙ cond-false _ _ _ (le-ltb (length (extents_of R s.obj)) MOST_EXTENTS (omega (arith, n, many))))

pub grows_by : (R : List Record) (k : Shape) (s : Segment) (count : ℕ) (x : Option ℕ) → IsSegment k R s.obj s → count ≡ data_count k s.extents → count ≤ s.high → s.extents < MOST_EXTENTS → x ≡ least_free k R → extend_if x ≡ next_growth k R s.obj
grows_by R k s count x is c more few e =
    let n = is.extents in
    ap extend_if e ∙ sym (not_up R k s count is c more ∙ cond-true _ _ _ (lt-ltb (length (extents_of R s.obj)) MOST_EXTENTS (omega (arith, n, few))))

pub formats : (k : Shape) (R : List Record) (o b : ℕ) → Some b ≡ first_unformatted k R (under_high k R o) → Some (step.Format b) ≡ next_mark k R o
formats k R o b e = ap (λ (x : Option ℕ). format_else x (next_growth k R o)) e

pub formats_none : (k : Shape) (R : List Record) (o : ℕ) → None ≡ first_unformatted k R (under_high k R o) → next_growth k R o ≡ next_mark k R o
formats_none k R o e = ap (λ (x : Option ℕ). format_else x (next_growth k R o)) e

-- by the store's shape and the table's number
pub mark_same : (sh k : Shape) (R : List Record) (o : ℕ) (s : Segment) → k ≡ sh → IsSegment sh R o s → next_mark k R s.obj ≡ next_mark sh R o
mark_same sh k R o s e is = ap (λ (x : Shape). next_mark x R s.obj) e ∙ ap (next_mark sh R) is.obj

-- ---- the search

pub first_then : (a b : Option ℕ) (f : Option Found) → block_or (first_of a b) f ≡ block_or a (block_or b f)
first_then None b f = refl
first_then (Some x) b f = refl

abbrev last : List Record → Look → Option Found
last R l = mark_or (next_mark l.shape R l.segment.obj) (block_or (find (is_usable l.shape R (row_sought l)) (under_high l.shape R l.segment.obj)) None)

abbrev good : List Record → Look → Option ℕ → Option ℕ
good R l hint = first_of (first_hinted l.shape R (row_sought l) hint) (find (is_good l.shape R (row_sought l)) (under_high l.shape R l.segment.obj))

pub found_good : (R : List Record) (l : Look) (hint : Option ℕ) (b : ℕ) → Some b ≡ good R l hint → Some (found.Block b) ≡ find_of l.shape R (row_sought l) hint
found_good R l hint b e = ap (λ (x : Option ℕ). block_or x (last R l)) e ∙ first_then (first_hinted l.shape R (row_sought l) hint) _ (last R l)

pub found_last : (R : List Record) (l : Look) (hint : Option ℕ) (f : Option Found) → None ≡ good R l hint → f ≡ last R l → f ≡ find_of l.shape R (row_sought l) hint
found_last R l hint f e h = h ∙ ap (λ (x : Option ℕ). block_or x (last R l)) e ∙ first_then (first_hinted l.shape R (row_sought l) hint) _ (last R l)

-- ---- the answer

sought_is : (sh : Shape) (R : List Record) (o : ℕ) (row : Row) (l : Look) → IsLook sh R o row l → row_sought l ≡ sought o row.len row.taker row.but
sought_is sh R o row l is = ap (λ n. sought n l.row.len l.row.taker l.row.but) is.obj ∙ ap (λ (r : Row). sought o r.len r.taker r.but) is.row

pub find_is : (sh : Shape) (R : List Record) (o : ℕ) (row : Row) (l : Look) (hint : Option ℕ) (f : Option Found) → IsLook sh R o row l → f ≡ find_of l.shape R (row_sought l) hint → find_of sh R (sought o row.len row.taker row.but) hint ≡ f
find_is sh R o row l hint f is e =
    sym (e ∙ ap (λ (s : Shape). find_of s R (row_sought l) hint) is.knows.shape ∙ ap (λ (q : Sought). find_of sh R q hint) (sought_is sh R o row l is))

pub refused_few : (sh : Shape) (R : List Record) (l : Look) → Knows sh R l → l.segment.extents < MOST_EXTENTS → fault_of (refusal.NoSpace l.row.len) ≡ fault_of (refusal_of R (row_sought l))
refused_few sh R l k few = (let n = k.segment.extents in ap fault_of (sym (cond-true _ _ _ (lt-ltb (length (extents_of R l.segment.obj)) MOST_EXTENTS (omega (arith, n, few))))))

pub refused_most : (sh : Shape) (R : List Record) (l : Look) → Knows sh R l → MOST_EXTENTS ≤ l.segment.extents → fault_of (refusal.MaxExtents MOST_EXTENTS) ≡ fault_of (refusal_of R (row_sought l))
refused_most sh R l k many = (let n = k.segment.extents in ap fault_of (sym (cond-false _ _ _ (le-ltb (length (extents_of R l.segment.obj)) MOST_EXTENTS (omega (arith, n, many))))))

by_refusal : (sh : Shape) (R : List Record) (q : Sought) (f : Refusal) → IsRefusal sh R q f → IsRefusedBy sh R q (fault_of f)
by_refusal sh R q (refusal.NoSpace need) h = h
by_refusal sh R q (refusal.MaxExtents count) h = h

pub refused_is : {D : Type 0} (meaning : Meaning D) (a : Held D) (R : List Record) (o : ℕ) (row : Row) (l : Look) (hint : Option ℕ) (f : FindFault) → IsTrue meaning R a → IsTable R o → IsLook a.shape R o row l → None ≡ find_of l.shape R (row_sought l) hint → f ≡ fault_of (refusal_of R (row_sought l))
    → IsRefusedBy a.shape R (sought o row.len row.taker row.but) f
refused_is meaning a R o row l hint f t i is e g =
    let q = sought o row.len row.taker row.but in
    let none = find_is a.shape R o row l hint None is e in
    let h = (refusals_mean a.shape R q hint t.list.within t.lawful i).is none in
    subst (IsRefusedBy a.shape R q) (sym (g ∙ ap (λ (x : Sought). fault_of (refusal_of R x)) (sought_is a.shape R o row l is))) (by_refusal a.shape R q (refusal_of R q) h)
