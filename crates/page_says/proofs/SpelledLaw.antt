-- Each page of a lawful list has a spelling: one induction over the list for what pages keep, and the model's laws for row
-- blocks and the parts of undo.
use Rattle.std.proofs.Common.{◌≡◌, ℕ, zero, suc, ◌%◌, ◌<◌, ◌≤◌, ◌^◌, Bool, true, false, cond, eqb, List, [], ◌∷◌, length, replicate, Option, Some, None, refl, sym, ap, ◌∙◌, subst, inl, inr, arith}
use Rattle.std.proofs.lemmas.Bool.{cases_Bool, cond-true, cond-false}
use Rattle.seg_words.specs.Types.{AllByRecursion, Shape, is_shape, TXN_ENTRIES, EXTENTS_OF_L2, MOST_TABLES, MOST_EXTENT_BLOCKS}
use Rattle.bitmap_block.proofs.Reading.{no_codes}
use Rattle.segment_blocks.specs.Types.{no_table, IsCatalogueEntry}
use Rattle.segment_blocks.proofs.Searching.{no_bits}
use Rattle.txn_block.specs.declared.entry.TableEntry.TheVariants.{Unused}
use Rattle.txn_block.specs.EntryBytes.{IsEntry}
use Rattle.redo_model.specs.Records.{Record, Table, Extend, FormatBlock, Begin, Reuse, TableRecord, ExtendRecord, ReuseRecord, IsTable, HasSpelling}
use Rattle.redo_model.specs.Model.{AreAllowed}
use Rattle.redo_laws.proofs.numbers.Bounds.{limits, reuse_bound}
use Rattle.redo_laws.proofs.spelled.SpelledLaw.{records_are_spelled}
use Rattle.page_set.specs.declared.page.Page.{Page}
use Rattle.page_set.specs.declared.page.Page.TheVariants as pages
use Rattle.page_set.specs.Pages.{dba_of, lsn_of, new_rows, new_header, new_first, new_second, new_third, new_undo}
use Rattle.page_set.specs.Started.{start, or_kept, as_txns, as_catalogue, as_space, table_started}
use Rattle.page_set.specs.Changes.{page_after, changed_page, PageFits}
use Rattle.page_set.specs.Among.{is_among}
use Rattle.page_set.specs.Folded.{touched, page_of}
use Rattle.page_set.specs.Says.{Says}
use Rattle.page_set.specs.Spelled as pages_spelled
use Rattle.page_set.proofs.SaysLaw.{says, dba_says}
use Rattle.page_set.proofs.LsnLaw.{lsns_tell}
use Rattle.page_set.proofs.ReadAgain.{meaning_again}
use Rattle.page_fit.proofs.FitLaw.{records_fit_pages}
use Rattle.page_says.specs.SpelledPages.{PagesAreSpelled}
use Rattle.page_says.proofs.Fields.{Fields}
use Rattle.page_says.proofs.TxnFields.{txns_have}
use Rattle.page_says.proofs.SpaceFields.{catalogue_has, space_has, first_has, second_has, third_has, header_has}
use Rattle.page_says.proofs.RowFields.{rows_spelled, undo_spelled}

-- ---- pages that a record makes anew

begun_has : (p : Page) → Fields p → Fields (or_kept (as_txns p) p)
begun_has (pages.Zero x) h = record { control_fits = omega arith; txn_fits = omega arith; row_fits = omega arith; undo_fits = tt; count = refl; each = unused TXN_ENTRIES }
  where
    unused : (n : ℕ) → AllByRecursion IsEntry (replicate n Unused)
    unused zero = tt
    unused (suc n) = (tt, unused n)
begun_has (pages.Checkpoint x) h = absurd h
begun_has p h = h

named_has : (p : Page) → Fields p → Fields (or_kept (as_catalogue p) p)
named_has (pages.Zero x) h = record { count = refl; each = none MOST_TABLES }
  where
    none : (n : ℕ) → AllByRecursion IsCatalogueEntry (replicate n no_table)
    none zero = tt
    none (suc n) = (tt, none n)
named_has (pages.Checkpoint x) h = absurd h
named_has p h = h

mapped_has : (p : Page) → Fields p → Fields (or_kept (as_space p) p)
mapped_has (pages.Zero x) h = record { fits = omega arith; has = no_bits; bytes = zeros 256 }
  where
    zeros : (n : ℕ) → AllByRecursion (λ b. b < 256) (replicate n 0)
    zeros zero = tt
    zeros (suc n) = (omega arith, zeros n)
mapped_has (pages.Checkpoint x) h = absurd h
mapped_has p h = h

table_has : (t : TableRecord) (p : Page) → IsTable t → Fields p → Fields (or_kept (table_started t p) p)
table_has t p s h = elim (eqb (dba_of p) 2) as (λ b. Fields (or_kept (cond b (as_catalogue p) (Some (new_header (dba_of p) t))) p)) [
  | true ↦ named_has p h
  | false ↦ record { least = s.obj.0; most = s.obj.1; pctfree_fits = s.pctfree; low_fits = omega arith; high_fits = omega arith; count = omega arith; each = tt }
]

made_has : (b : Bool) (q p : Page) → Fields q → Fields p → Fields (or_kept (cond b (Some q) None) p)
made_has true q p h k = h
made_has false q p h k = k

maps_has : (b bi c ci : Bool) (q p2 p3 p1 : Page) → Fields q → Fields p2 → Fields p3 → Fields p1 → Fields (or_kept (cond b (cond bi (Some p2) None) (cond c (cond ci (Some p3) None) (Some p1))) q)
maps_has true true c ci q p2 p3 p1 h h2 h3 h1 = h2
maps_has true false c ci q p2 p3 p1 h h2 h3 h1 = h
maps_has false bi true true q p2 p3 p1 h h2 h3 h1 = h3
maps_has false bi true false q p2 p3 p1 h h2 h3 h1 = h
maps_has false bi false ci q p2 p3 p1 h h2 h3 h1 = h1

extend_has : (e : ExtendRecord) (lsn : ℕ) (p : Page) → lsn < 2 ^ 64 → Fields p → Fields (start (Extend e) lsn p)
extend_has e lsn p l h =
    let d : ℕ = dba_of p in
    let rest : Option Page = cond (eqb d e.l2) (cond (eqb (e.index % EXTENTS_OF_L2) 0) (Some (new_second d)) None) (cond (eqb d e.l3) (cond (eqb e.index 0) (Some (new_third d)) None) (Some (new_first d lsn))) in
    elim (eqb d 3) as (λ b. Fields (or_kept (cond b (as_space p) (cond (eqb d e.header) None rest)) p)) [
      | true ↦ mapped_has p h
      | false ↦ elim (eqb d e.header) as (λ b. Fields (or_kept (cond b None rest) p)) [
        | true ↦ h
        | false ↦ maps_has (eqb d e.l2) (eqb (e.index % EXTENTS_OF_L2) 0) (eqb d e.l3) (eqb e.index 0) p (new_second d) (new_third d) (new_first d lsn) h (no_codes EXTENTS_OF_L2) (no_codes 3) (l, no_codes MOST_EXTENT_BLOCKS)
      ]
    ]

start_has : (r : Record) (lsn : ℕ) (p : Page) → HasSpelling r → lsn < 2 ^ 64 → Fields p → Fields (start r lsn p)
start_has (FormatBlock f) lsn p s l h = made_has (eqb f.dba (dba_of p)) (new_rows (dba_of p)) p tt h
start_has (Reuse q) lsn p s l h = made_has (eqb q.block (dba_of p)) (new_undo (dba_of p) q.sequence) p s.sequence h
start_has (Begin g) lsn p s l h = begun_has p h
start_has (Table t) lsn p s l h = table_has t p s h
start_has (Extend e) lsn p s l h = extend_has e lsn p l h
start_has r lsn p s l h = h

-- ---- what a record changes

after_has : (r : Record) (lsn : ℕ) (p : Page) → HasSpelling r → PageFits r p → Fields p → Fields (page_after r lsn p)
after_has r lsn (pages.Zero x) s f h = tt
after_has r lsn (pages.Checkpoint x) s f h = absurd h
after_has r lsn (pages.Txns x) s f h = txns_have r x s f h
after_has r lsn (pages.Catalogue x) s f h = catalogue_has r x s f h
after_has r lsn (pages.Space x) s f h = space_has r x s f h
after_has r lsn (pages.Undo x) s f h = h
after_has r lsn (pages.First x) s f h = first_has r x s f h
after_has r lsn (pages.Second x) s f h = second_has r x s f h
after_has r lsn (pages.Third x) s f h = third_has r x s f h
after_has r lsn (pages.Header x) s f h = header_has r x s f h
after_has r lsn (pages.Rows x) s f h = tt

-- a Reuse, which may stand before a transaction table
reuse_has : (q : ReuseRecord) (lsn : ℕ) (p : Page) → HasSpelling (Reuse q) → 0 < q.block → Fields p → Fields (page_after (Reuse q) lsn p)
reuse_has q lsn (pages.Zero x) s l h = tt
reuse_has q lsn (pages.Checkpoint x) s l h = absurd h
reuse_has q lsn (pages.Txns x) s l h = txns_have (Reuse q) x s l h
reuse_has q lsn (pages.Rows x) s l h = tt
reuse_has q lsn p s l h = h

fitted_has : (sh : Shape) (R : List Record) (r : Record) (d : ℕ) → is_shape sh ≡ true → suc (suc (length R)) < 2 ^ 64 → AreAllowed sh (r ∷ R) → PageFits r (start r (suc (length R)) (page_of sh R d)) → Fields (page_of sh R d) → Fields (changed_page r (suc (length R)) (page_of sh R d))
fitted_has sh R r d s l h f x =
    let p = page_of sh R d in
    let k = records_are_spelled sh R r s (omega (arith, l)) h in
    after_has r (suc (length R)) (start r (suc (length R)) p) k f (start_has r (suc (length R)) p k (omega (arith, l)) x)

changed_has : (sh : Shape) (R : List Record) (r : Record) (d : ℕ) → is_shape sh ≡ true → suc (suc (length R)) < 2 ^ 64 → AreAllowed sh (r ∷ R) → is_among (touched sh r) d ≡ true → Fields (page_of sh R d) → Fields (changed_page r (suc (length R)) (page_of sh R d))
changed_has sh R (Reuse q) d s l h m x =
    let p = page_of sh R d in
    let k = records_are_spelled sh R (Reuse q) s (omega (arith, l)) h in
    let b = (reuse_bound sh R q.block (limits sh s).undo_from h.0 h.1.kind.block.next).0 in
    reuse_has q (suc (length R)) (start (Reuse q) (suc (length R)) p) k (omega (arith, b)) (start_has (Reuse q) (suc (length R)) p k (omega (arith, l)) x)
changed_has sh R r d s l h m x = fitted_has sh R r d s l h (records_fit_pages sh R r d s h tt m) x

fields : (sh : Shape) (R : List Record) (d : ℕ) → is_shape sh ≡ true → suc (length R) < 2 ^ 64 → AreAllowed sh R → Fields (page_of sh R d)
fields sh [] d s l h = tt
fields sh (r ∷ R) d s l h =
    let p = page_of sh R d in
    let x = fields sh R d s (omega (arith, l)) h.0 in
    elim (cases_Bool (is_among (touched sh r) d)) [
      | inl y ↦ subst Fields (sym (cond-true _ _ _ y)) (changed_has sh R r d s l h y x)
      | inr n ↦ subst Fields (sym (cond-false _ _ _ n)) x
    ]

-- ---- all of a page

has_spelling : (sh : Shape) (R : List Record) (d : ℕ) (p : Page) → is_shape sh ≡ true → suc (length R) < 2 ^ 64 → AreAllowed sh R → d < 2 ^ 32 → Says R d p → lsn_of p ≤ length R → Fields p → pages_spelled.HasSpelling p
has_spelling sh R d (pages.Zero x) s l h m y n f = tt
has_spelling sh R d (pages.Checkpoint x) s l h m y n f = absurd f
has_spelling sh R d (pages.Txns x) s l h m y n f = record {
  dba = omega (arith, y, m);
  lsn = omega (arith, n, l);
  control = f.control_fits;
  last_txn = f.txn_fits;
  last_row = f.row_fits;
  current_undo = f.undo_fits;
  count = f.count;
  entries = f.each;
}
has_spelling sh R d (pages.Catalogue x) s l h m y n f = record { dba = omega (arith, y, m); lsn = omega (arith, n, l); count = f.count; entries = f.each }
has_spelling sh R d (pages.Space x) s l h m y n f = record { dba = omega (arith, y, m); lsn = omega (arith, n, l); lowerings = f.fits; bits = f.has }
has_spelling sh R d (pages.Undo x) s l h m y n f = (let e = y.0 in undo_spelled sh R d x s l h (omega (arith, e, m)) (omega (arith, n, l)) f y.1)
has_spelling sh R d (pages.First x) s l h m y n f = record { dba = omega (arith, y, m); lsn = omega (arith, n, l); incarnation = f.0; count = f.1.count; codes = f.1.each }
has_spelling sh R d (pages.Second x) s l h m y n f = record { dba = omega (arith, y, m); lsn = omega (arith, n, l); count = f.count; codes = f.each }
has_spelling sh R d (pages.Third x) s l h m y n f = record { dba = omega (arith, y, m); lsn = omega (arith, n, l); count = f.count; codes = f.each }
has_spelling sh R d (pages.Header x) s l h m y n f = record {
  dba = omega (arith, y, m);
  lsn = omega (arith, n, l);
  least_obj = f.least;
  most_obj = f.most;
  pctfree = f.pctfree_fits;
  low = f.low_fits;
  high = f.high_fits;
  count = f.count;
  extents = f.each;
}
has_spelling sh R d (pages.Rows x) s l h m y n f = (let e = y.0 in rows_spelled sh R d x s l h (omega (arith, e, m)) (omega (arith, n, l)) y.1)

pub pages_are_spelled : PagesAreSpelled
pages_are_spelled sh R d s l h m =
    let p = page_of sh R d in
    let y : Says R d p = says sh R d in
    let number : dba_of p ≡ d = dba_says R d p y in
    let x = has_spelling sh R d p s l h m y (lsns_tell sh R d).most (fields sh R d s l h) in
    record {
      number = number;
      spelled = x;
      again = ap (λ (n : ℕ). pages_spelled.meaning_of n (pages_spelled.spelling_of p)) (sym number) ∙ meaning_again p x;
    }
