-- An undo page's sequence is how often its block was taken into use.
use Rattle.std.proofs.Common.{◌≡◌, ℕ, suc, ◌%◌, Bool, true, false, cond, eqb, List, [], ◌∷◌, length, Option, Some, None, refl, sym, ◌∙◌, ap, subst, inl, inr}
use Rattle.std.proofs.lemmas.Bool.{cases_Bool, eqb-true, cond-true, cond-false, or_left, or_right}
use Rattle.seg_words.specs.Types.{EXTENTS_OF_L2}
use Rattle.seg_base.specs.declared.shape.Shape.{Shape}
use Rattle.redo_record.specs.declared.record.Record.{Record}
use Rattle.redo_record.specs.declared.record.Record.TheVariants.{Table, Movement, Extend, FormatBlock, Class, Advance, Lower, Begin, Reuse, Insert, Update, Migrate, Return, Delete, Commit, Back, Ended, Move, Clean}
use Rattle.redo_record.specs.declared.transaction.ReuseRecord.{ReuseRecord}
use Rattle.redo_model.specs.Undo.{undo_sequence}
use Rattle.redo_model.specs.AllowedTransactions.{ReuseAllowed}
use Rattle.redo_model.specs.Lawful.{IsKindAllowed, AreAllowed}
use Rattle.page_set.specs.declared.page.Page.{Page}
use Rattle.page_set.specs.declared.page.Page.TheVariants as pages
use Rattle.page_set.specs.Pages.{dba_of, new_rows, new_header, new_first, new_second, new_third}
use Rattle.page_set.specs.Started.{start, or_kept, as_txns, as_catalogue, as_space, table_started}
use Rattle.page_set.specs.Changes.{page_after, changed_page}
use Rattle.page_set.specs.Among.{is_among}
use Rattle.page_set.specs.Folded.{touched, page_of}
use Rattle.redo_record.specs.declared.space.TableRecord.{TableRecord}
use Rattle.redo_record.specs.declared.space.ExtendRecord.{ExtendRecord}
use Rattle.page_set.proofs.SaysLaw.{says, dba_says}
use Rattle.page_fit.specs.FitPages.{SequencesAreCounts}

-- the sequence of the page, where it is an undo page
abbrev Has : ℕ → Page → Type 0
Has n (pages.Undo u) = u.sequence ≡ n
Has n _ = Unit {0}

after_has : (r : Record) (lsn n : ℕ) (p : Page) → Has n p → Has n (page_after r lsn p)
after_has r lsn n (pages.Zero x) h = tt
after_has r lsn n (pages.Checkpoint x) h = tt
after_has r lsn n (pages.Txns x) h = tt
after_has r lsn n (pages.Catalogue x) h = tt
after_has r lsn n (pages.Space x) h = tt
after_has r lsn n (pages.Undo x) h = h
after_has r lsn n (pages.First x) h = tt
after_has r lsn n (pages.Second x) h = tt
after_has r lsn n (pages.Third x) h = tt
after_has r lsn n (pages.Header x) h = tt
after_has r lsn n (pages.Rows x) h = tt

begun_has : (n : ℕ) (p : Page) → Has n p → Has n (or_kept (as_txns p) p)
begun_has n (pages.Zero x) h = tt
begun_has n (pages.Checkpoint x) h = tt
begun_has n (pages.Txns x) h = tt
begun_has n (pages.Catalogue x) h = tt
begun_has n (pages.Space x) h = tt
begun_has n (pages.Undo x) h = h
begun_has n (pages.First x) h = tt
begun_has n (pages.Second x) h = tt
begun_has n (pages.Third x) h = tt
begun_has n (pages.Header x) h = tt
begun_has n (pages.Rows x) h = tt

catalogue_has : (n : ℕ) (p : Page) → Has n p → Has n (or_kept (as_catalogue p) p)
catalogue_has n (pages.Zero x) h = tt
catalogue_has n (pages.Checkpoint x) h = tt
catalogue_has n (pages.Txns x) h = tt
catalogue_has n (pages.Catalogue x) h = tt
catalogue_has n (pages.Space x) h = tt
catalogue_has n (pages.Undo x) h = h
catalogue_has n (pages.First x) h = tt
catalogue_has n (pages.Second x) h = tt
catalogue_has n (pages.Third x) h = tt
catalogue_has n (pages.Header x) h = tt
catalogue_has n (pages.Rows x) h = tt

space_has : (n : ℕ) (p : Page) → Has n p → Has n (or_kept (as_space p) p)
space_has n (pages.Zero x) h = tt
space_has n (pages.Checkpoint x) h = tt
space_has n (pages.Txns x) h = tt
space_has n (pages.Catalogue x) h = tt
space_has n (pages.Space x) h = tt
space_has n (pages.Undo x) h = h
space_has n (pages.First x) h = tt
space_has n (pages.Second x) h = tt
space_has n (pages.Third x) h = tt
space_has n (pages.Header x) h = tt
space_has n (pages.Rows x) h = tt

cond_has : (b : Bool) (n : ℕ) (p q : Page) → Has n p → Has n q → Has n (cond b p q)
cond_has true n p q h k = h
cond_has false n p q h k = k

made_has : (b : Bool) (n : ℕ) (q p : Page) → Has n q → Has n p → Has n (or_kept (cond b (Some q) None) p)
made_has true n q p h k = h
made_has false n q p h k = k

table_has : (t : TableRecord) (n : ℕ) (p : Page) → Has n p → Has n (or_kept (table_started t p) p)
table_has t n p h = elim (eqb (dba_of p) 2) as (λ b. Has n (or_kept (cond b (as_catalogue p) (Some (new_header (dba_of p) t))) p)) [ true ↦ catalogue_has n p h | false ↦ tt ]

maps_has : (b bi c ci : Bool) (n : ℕ) (q p2 p3 p1 : Page) → Has n q → Has n p2 → Has n p3 → Has n p1 → Has n (or_kept (cond b (cond bi (Some p2) None) (cond c (cond ci (Some p3) None) (Some p1))) q)
maps_has true true c ci n q p2 p3 p1 h h2 h3 h1 = h2
maps_has true false c ci n q p2 p3 p1 h h2 h3 h1 = h
maps_has false bi true true n q p2 p3 p1 h h2 h3 h1 = h3
maps_has false bi true false n q p2 p3 p1 h h2 h3 h1 = h
maps_has false bi false ci n q p2 p3 p1 h h2 h3 h1 = h1

extend_has : (e : ExtendRecord) (lsn n : ℕ) (p : Page) → Has n p → Has n (start (Extend e) lsn p)
extend_has e lsn n p h =
    let d : ℕ = dba_of p in
    let rest : Option Page = cond (eqb d e.l2) (cond (eqb (e.index % EXTENTS_OF_L2) 0) (Some (new_second d)) None) (cond (eqb d e.l3) (cond (eqb e.index 0) (Some (new_third d)) None) (Some (new_first d lsn))) in
    elim (eqb d 3) as (λ b. Has n (or_kept (cond b (as_space p) (cond (eqb d e.header) None rest)) p)) [
      | true ↦ space_has n p h
      | false ↦ elim (eqb d e.header) as (λ b. Has n (or_kept (cond b None rest) p)) [ true ↦ h | false ↦ maps_has (eqb d e.l2) (eqb (e.index % EXTENTS_OF_L2) 0) (eqb d e.l3) (eqb e.index 0) n p (new_second d) (new_third d) (new_first d lsn) h tt tt tt ]
    ]

-- a record that is no Reuse of the block keeps it
kept_has : (r : Record) (lsn n : ℕ) (p : Page) → ((q : ReuseRecord) → r ≡ Reuse q → eqb q.block (dba_of p) ≡ false) → Has n p → Has n (start r lsn p)
kept_has (FormatBlock f) lsn n p k h = made_has (eqb f.dba (dba_of p)) n (new_rows (dba_of p)) p tt h
kept_has (Reuse q) lsn n p k h = subst (λ (o : Option Page). Has n (or_kept o p)) (sym (cond-false _ _ _ (k q refl))) h
kept_has (Begin g) lsn n p k h = begun_has n p h
kept_has (Table t) lsn n p k h = table_has t n p h
kept_has (Extend e) lsn n p k h = extend_has e lsn n p h
kept_has r lsn n p k h = h

-- one record

other_step : (sh : Shape) (r : Record) (R : List Record) (d : ℕ) → undo_sequence (r ∷ R) d ≡ undo_sequence R d → ((q : ReuseRecord) → r ≡ Reuse q → eqb q.block d ≡ false) → Has (undo_sequence R d) (page_of sh R d) → Has (undo_sequence (r ∷ R) d) (page_of sh (r ∷ R) d)
other_step sh r R d same k h =
    let p = page_of sh R d in
    let n = undo_sequence R d in
    subst (λ m. Has m (page_of sh (r ∷ R) d)) (sym same)
    (cond_has (is_among (touched sh r) d) n (changed_page r (suc (length R)) p) p
    (after_has r (suc (length R)) n (start r (suc (length R)) p) (kept_has r (suc (length R)) n p (λ q e. ap (eqb q.block) (dba_says R d p (says sh R d)) ∙ k q e) h)) h)

reuse_step : (sh : Shape) (R : List Record) (q : ReuseRecord) (d : ℕ) → ReuseAllowed sh R q → Has (undo_sequence R d) (page_of sh R d) → Has (undo_sequence (Reuse q ∷ R) d) (page_of sh (Reuse q ∷ R) d)
reuse_step sh R q d a h = elim (cases_Bool (eqb q.block d)) [
  | inr f ↦ other_step sh (Reuse q) R d (cond-false _ _ _ f) (λ x e. let same : q ≡ x = (let z : Reuse q ≡ Reuse x = e in cc) in subst (λ (z : ReuseRecord). eqb z.block d ≡ false) same f) h
  | inl y ↦
      let p = page_of sh R d in
      let same : eqb q.block (dba_of p) ≡ true = ap (eqb q.block) (dba_says R d p (says sh R d)) ∙ y in
      let t : is_among (touched sh (Reuse q)) d ≡ true = or_right (eqb 1 d) _ (or_left (eqb q.block d) false y) in
      let n : q.sequence ≡ undo_sequence (Reuse q ∷ R) d = a.sequence ∙ ap (λ b. suc (undo_sequence R b)) (eqb-true q.block d y) ∙ sym (cond-true _ _ _ y) in
      subst (Has (undo_sequence (Reuse q ∷ R) d)) (sym (cond-true _ _ _ t))
      (subst (λ (o : Option Page). Has (undo_sequence (Reuse q ∷ R) d) (page_after (Reuse q) (suc (length R)) (or_kept o p))) (sym (cond-true _ _ _ same)) n)
]

seq_step : (sh : Shape) (R : List Record) (r : Record) (d : ℕ) → IsKindAllowed sh R r → Has (undo_sequence R d) (page_of sh R d) → Has (undo_sequence (r ∷ R) d) (page_of sh (r ∷ R) d)
seq_step sh R (Reuse q) d a h = reuse_step sh R q d a h
seq_step sh R (Table x) d a h = other_step sh (Table x) R d refl (λ q e. absurd (let z : Table x ≡ Reuse q = e in cc)) h
seq_step sh R (Movement x) d a h = other_step sh (Movement x) R d refl (λ q e. absurd (let z : Movement x ≡ Reuse q = e in cc)) h
seq_step sh R (Extend x) d a h = other_step sh (Extend x) R d refl (λ q e. absurd (let z : Extend x ≡ Reuse q = e in cc)) h
seq_step sh R (FormatBlock x) d a h = other_step sh (FormatBlock x) R d refl (λ q e. absurd (let z : FormatBlock x ≡ Reuse q = e in cc)) h
seq_step sh R (Class x) d a h = other_step sh (Class x) R d refl (λ q e. absurd (let z : Class x ≡ Reuse q = e in cc)) h
seq_step sh R (Advance x) d a h = other_step sh (Advance x) R d refl (λ q e. absurd (let z : Advance x ≡ Reuse q = e in cc)) h
seq_step sh R (Lower x) d a h = other_step sh (Lower x) R d refl (λ q e. absurd (let z : Lower x ≡ Reuse q = e in cc)) h
seq_step sh R (Begin x) d a h = other_step sh (Begin x) R d refl (λ q e. absurd (let z : Begin x ≡ Reuse q = e in cc)) h
seq_step sh R (Insert x) d a h = other_step sh (Insert x) R d refl (λ q e. absurd (let z : Insert x ≡ Reuse q = e in cc)) h
seq_step sh R (Update x) d a h = other_step sh (Update x) R d refl (λ q e. absurd (let z : Update x ≡ Reuse q = e in cc)) h
seq_step sh R (Migrate x) d a h = other_step sh (Migrate x) R d refl (λ q e. absurd (let z : Migrate x ≡ Reuse q = e in cc)) h
seq_step sh R (Return x) d a h = other_step sh (Return x) R d refl (λ q e. absurd (let z : Return x ≡ Reuse q = e in cc)) h
seq_step sh R (Delete x) d a h = other_step sh (Delete x) R d refl (λ q e. absurd (let z : Delete x ≡ Reuse q = e in cc)) h
seq_step sh R (Commit x) d a h = other_step sh (Commit x) R d refl (λ q e. absurd (let z : Commit x ≡ Reuse q = e in cc)) h
seq_step sh R (Back x) d a h = other_step sh (Back x) R d refl (λ q e. absurd (let z : Back x ≡ Reuse q = e in cc)) h
seq_step sh R (Ended x) d a h = other_step sh (Ended x) R d refl (λ q e. absurd (let z : Ended x ≡ Reuse q = e in cc)) h
seq_step sh R (Move x) d a h = other_step sh (Move x) R d refl (λ q e. absurd (let z : Move x ≡ Reuse q = e in cc)) h
seq_step sh R (Clean x) d a h = other_step sh (Clean x) R d refl (λ q e. absurd (let z : Clean x ≡ Reuse q = e in cc)) h

seq_in : (sh : Shape) (R : List Record) (d : ℕ) → AreAllowed sh R → Has (undo_sequence R d) (page_of sh R d)
seq_in sh [] d h = tt
seq_in sh (r ∷ R) d h = seq_step sh R r d h.1.kind (seq_in sh R d h.0)

pub sequences_are_counts : SequencesAreCounts
sequences_are_counts sh R u n ps lsn h e = subst (Has (undo_sequence R u)) e (seq_in sh R u h)
