-- The sort of each page is that of its block, but for the catalogue, the space bitmap and headers, which have none.
use Rattle.std.proofs.Common.{◌≡◌, ℕ, suc, ◌%◌, Bool, true, false, cond, eqb, ◌||◌, List, [], ◌∷◌, length, Option, Some, None, refl, sym, ◌∙◌, ap}
use Rattle.std.proofs.lemmas.Bool.{eq-eqb, ne_eqb, cond-false, or_left}
use Rattle.seg_words.specs.Types.{EXTENTS_OF_L2}
use Rattle.seg_base.specs.declared.shape.Shape.{Shape}
use Rattle.redo_record.specs.declared.record.Record.{Record}
use Rattle.redo_record.specs.declared.record.Record.TheVariants.{Table, Movement, Extend, FormatBlock, Class, Advance, Lower, Begin, Reuse, Insert, Update, Migrate, Return, Delete, Commit, Back, Ended, Move, Clean}
use Rattle.redo_record.specs.declared.space.ExtendRecord.{ExtendRecord}
use Rattle.page_set.specs.declared.page.Page.{Page}
use Rattle.page_set.specs.declared.page.Page.TheVariants as pages
use Rattle.page_set.specs.Pages.{dba_of, new_second, new_third, new_first, new_rows, new_undo}
use Rattle.page_set.specs.Started.{started, or_kept, start, as_txns as begun}
use Rattle.page_set.specs.Changes.{page_after, changed_page}
use Rattle.page_set.specs.Among as folded
use Rattle.page_set.specs.Folded.{touched, page_of}
use Rattle.page_set.proofs.SaysLaw.{says, dba_says}
use Rattle.redo_model.specs.Lawful.{AreAllowed}
use Rattle.redo_laws.specs.Among.{is_in}
use Rattle.page_model.specs.Types.{touched_sorts}
use Rattle.sort_laws.specs.Sorts.{Sort, Blank, Rows, Undo, Txns, First, Second, Third, as_txns, sort_after, sort_of}
use Rattle.page_fit.proofs.Plain.{Plain, plain_before, extend_plain}

-- the sort of a page; a page of another sort has none
abbrev pub sort_name : Page → Option Sort
sort_name (pages.Zero d) = Some Blank
sort_name (pages.Checkpoint p) = None
sort_name (pages.Txns t) = Some Txns
sort_name (pages.Catalogue c) = None
sort_name (pages.Space s) = None
sort_name (pages.Undo u) = Some Undo
sort_name (pages.First m) = Some First
sort_name (pages.Second m) = Some Second
sort_name (pages.Third m) = Some Third
sort_name (pages.Header h) = None
sort_name (pages.Rows x) = Some Rows

-- both speak of the same blocks

pub among_same : (xs : List ℕ) (d : ℕ) → folded.is_among xs d ≡ is_in d xs
among_same [] d = refl
among_same (x ∷ xs) d = ap (λ v. eqb x d || v) (among_same xs d)

pub after_sort : (r : Record) (lsn : ℕ) (p : Page) → sort_name (page_after r lsn p) ≡ sort_name p
after_sort r lsn (pages.Zero x) = refl
after_sort r lsn (pages.Checkpoint x) = refl
after_sort r lsn (pages.Txns x) = refl
after_sort r lsn (pages.Catalogue x) = refl
after_sort r lsn (pages.Space x) = refl
after_sort r lsn (pages.Undo x) = refl
after_sort r lsn (pages.First x) = refl
after_sort r lsn (pages.Second x) = refl
after_sort r lsn (pages.Third x) = refl
after_sort r lsn (pages.Header x) = refl
after_sort r lsn (pages.Rows x) = refl

begun_sort : (p : Page) (s : Sort) → sort_name p ≡ Some s → sort_name (or_kept (begun p) p) ≡ Some (as_txns s)
begun_sort (pages.Zero x) s e = ap (λ (t : Sort). Some (as_txns t)) (let z : ◌≡◌ {A = Option Sort} (Some Blank) (Some s) = e in let y : Blank ≡ s = cc in y)
begun_sort (pages.Checkpoint x) s e = absurd (let z : ◌≡◌ {A = Option Sort} None (Some s) = e in cc)
begun_sort (pages.Txns x) s e = ap (λ (t : Sort). Some (as_txns t)) (let z : ◌≡◌ {A = Option Sort} (Some Txns) (Some s) = e in let y : Txns ≡ s = cc in y)
begun_sort (pages.Catalogue x) s e = absurd (let z : ◌≡◌ {A = Option Sort} None (Some s) = e in cc)
begun_sort (pages.Space x) s e = absurd (let z : ◌≡◌ {A = Option Sort} None (Some s) = e in cc)
begun_sort (pages.Undo x) s e = ap (λ (t : Sort). Some (as_txns t)) (let z : ◌≡◌ {A = Option Sort} (Some Undo) (Some s) = e in let y : Undo ≡ s = cc in y)
begun_sort (pages.First x) s e = ap (λ (t : Sort). Some (as_txns t)) (let z : ◌≡◌ {A = Option Sort} (Some First) (Some s) = e in let y : First ≡ s = cc in y)
begun_sort (pages.Second x) s e = ap (λ (t : Sort). Some (as_txns t)) (let z : ◌≡◌ {A = Option Sort} (Some Second) (Some s) = e in let y : Second ≡ s = cc in y)
begun_sort (pages.Third x) s e = ap (λ (t : Sort). Some (as_txns t)) (let z : ◌≡◌ {A = Option Sort} (Some Third) (Some s) = e in let y : Third ≡ s = cc in y)
begun_sort (pages.Header x) s e = absurd (let z : ◌≡◌ {A = Option Sort} None (Some s) = e in cc)
begun_sort (pages.Rows x) s e = ap (λ (t : Sort). Some (as_txns t)) (let z : ◌≡◌ {A = Option Sort} (Some Rows) (Some s) = e in let y : Rows ≡ s = cc in y)

kept_sort : (r : Record) (lsn : ℕ) (b : Bool) (p : Page) (s : Sort) → sort_name p ≡ Some s → sort_name (cond b (page_after r lsn p) p) ≡ Some s
kept_sort r lsn true p s e = after_sort r lsn p ∙ e
kept_sort r lsn false p s e = e

step_sort : (b c : Bool) (p q : Page) (s t : Sort) → b ≡ c → sort_name q ≡ Some t → sort_name p ≡ Some s → sort_name (cond b q p) ≡ Some (cond c t s)
step_sort true c p q s t e h k = h ∙ ap (λ (x : Bool). Some (cond x t s)) e
step_sort false c p q s t e h k = k ∙ ap (λ (x : Bool). Some (cond x t s)) e

made_sort : (b : Bool) (p q : Page) (s t : Sort) → sort_name q ≡ Some t → sort_name p ≡ Some s → sort_name (or_kept (cond b (Some q) None) p) ≡ Some (cond b t s)
made_sort true p q s t h k = h
made_sort false p q s t h k = k

maps_sort : (b bi c ci : Bool) (p q2 q3 q1 : Page) (s : Sort) → sort_name p ≡ Some s → sort_name q2 ≡ Some Second → sort_name q3 ≡ Some Third → sort_name q1 ≡ Some First
    → sort_name (or_kept (cond b (cond bi (Some q2) None) (cond c (cond ci (Some q3) None) (Some q1))) p) ≡ Some (cond b (cond bi Second s) (cond c (cond ci Third s) First))
maps_sort true true c ci p q2 q3 q1 s k h2 h3 h1 = h2
maps_sort true false c ci p q2 q3 q1 s k h2 h3 h1 = k
maps_sort false bi true true p q2 q3 q1 s k h2 h3 h1 = h3
maps_sort false bi true false p q2 q3 q1 s k h2 h3 h1 = k
maps_sort false bi false ci p q2 q3 q1 s k h2 h3 h1 = h1

-- an Extend, at a block that is no header
extent_sort : (e : ExtendRecord) (lsn d : ℕ) (p : Page) (s : Sort) → dba_of p ≡ d → (d ≡ 3 → ⊥) → (d ≡ e.header → ⊥) → sort_name p ≡ Some s → sort_name (start (Extend e) lsn p) ≡ Some (sort_after (Extend e) d s)
extent_sort e lsn d p s dba three header k =
    let x : ℕ = dba_of p in
    ap (λ (o : Option Page). sort_name (or_kept o p)) (cond-false _ _ _ (ne_eqb x 3 (λ h. three (sym dba ∙ h))) ∙ cond-false _ _ _ (ne_eqb x e.header (λ h. header (sym dba ∙ h))))
    ∙ maps_sort (eqb x e.l2) (eqb (e.index % EXTENTS_OF_L2) 0) (eqb x e.l3) (eqb e.index 0) p (new_second x) (new_third x) (new_first x lsn) s k refl refl refl
    ∙ ap (λ (n : ℕ). Some (sort_after (Extend e) n s)) dba

pub no_among : (x : ℕ) (xs : List ℕ) (d : ℕ) → (d ≡ x → ⊥) → folded.is_among (x ∷ xs) d ≡ folded.is_among xs d
no_among x xs d h = ap (λ (b : Bool). b || folded.is_among xs d) (ne_eqb x d (λ e. h (sym e)))

-- a record that makes no page anew and leaves sorts as they are
plain_step : (sh : Shape) (R : List Record) (r : Record) (d : ℕ) → started r (suc (length R)) (page_of sh R d) ≡ None → sort_after r d (sort_of sh R d) ≡ sort_of sh R d → sort_name (page_of sh R d) ≡ Some (sort_of sh R d)
    → sort_name (page_of sh (r ∷ R) d) ≡ Some (sort_of sh (r ∷ R) d)
plain_step sh R r d none sort k =
    let p = page_of sh R d in
    ap (λ (o : Option Page). sort_name (cond (folded.is_among (touched sh r) d) (page_after r (suc (length R)) (or_kept o p)) p)) none
    ∙ kept_sort r (suc (length R)) (folded.is_among (touched sh r) d) p (sort_of sh R d) k
    ∙ ap (λ (t : Sort). Some t) (sym (either (is_in d (touched_sorts sh r)) (sort_after r d (sort_of sh R d)) (sort_of sh R d) sort))
  where
    either : (b : Bool) (t s : Sort) → t ≡ s → cond b t s ≡ s
    either true t s e = e
    either false t s e = refl

sorted_kind : (sh : Shape) (R : List Record) (r : Record) (d : ℕ) → AreAllowed sh (r ∷ R) → Plain (r ∷ R) d → dba_of (page_of sh R d) ≡ d → sort_name (page_of sh R d) ≡ Some (sort_of sh R d) → sort_name (page_of sh (r ∷ R) d) ≡ Some (sort_of sh (r ∷ R) d)
sorted_kind sh R (Table t) d h p dba k =
    ap (λ (b : Bool). sort_name (cond b (changed_page (Table t) (suc (length R)) (page_of sh R d)) (page_of sh R d)))
    (no_among 2 (t.header ∷ []) d p.no_catalogue ∙ no_among t.header [] d (λ e. p.no_header (or_left (eqb t.header d) _ (eq-eqb t.header d (sym e))))) ∙ k
sorted_kind sh R (Movement m) d h p dba k = plain_step sh R (Movement m) d refl refl k
sorted_kind sh R (Advance m) d h p dba k = plain_step sh R (Advance m) d refl refl k
sorted_kind sh R (Lower m) d h p dba k = plain_step sh R (Lower m) d refl refl k
sorted_kind sh R (Extend e) d h p dba k =
    let q = page_of sh R d in
    let lsn = suc (length R) in
    step_sort (folded.is_among (touched sh (Extend e)) d) (is_in d (touched_sorts sh (Extend e))) q (changed_page (Extend e) lsn q) (sort_of sh R d) (sort_after (Extend e) d (sort_of sh R d))
    (no_among 3 (e.header ∷ touched_sorts sh (Extend e)) d p.no_space ∙ no_among e.header (touched_sorts sh (Extend e)) d (extend_plain sh R e d h p) ∙ among_same (touched_sorts sh (Extend e)) d)
    (after_sort (Extend e) lsn (start (Extend e) lsn q) ∙ extent_sort e lsn d q (sort_of sh R d) dba p.no_space (extend_plain sh R e d h p) k) k
sorted_kind sh R (FormatBlock f) d h p dba k =
    let q = page_of sh R d in
    step_sort (folded.is_among (touched sh (FormatBlock f)) d) (is_in d (touched_sorts sh (FormatBlock f))) q (changed_page (FormatBlock f) (suc (length R)) q) (sort_of sh R d) (sort_after (FormatBlock f) d (sort_of sh R d))
    (among_same (touched sh (FormatBlock f)) d)
    (after_sort (FormatBlock f) (suc (length R)) (start (FormatBlock f) (suc (length R)) q) ∙ made_sort (eqb f.dba (dba_of q)) q (new_rows (dba_of q)) (sort_of sh R d) Rows refl k ∙ ap (λ (n : ℕ). Some (cond (eqb f.dba n) Rows (sort_of sh R d))) dba) k
sorted_kind sh R (Reuse f) d h p dba k =
    let q = page_of sh R d in
    step_sort (folded.is_among (touched sh (Reuse f)) d) (is_in d (touched_sorts sh (Reuse f))) q (changed_page (Reuse f) (suc (length R)) q) (sort_of sh R d) (sort_after (Reuse f) d (sort_of sh R d))
    (among_same (touched sh (Reuse f)) d)
    (after_sort (Reuse f) (suc (length R)) (start (Reuse f) (suc (length R)) q) ∙ made_sort (eqb f.block (dba_of q)) q (new_undo (dba_of q) f.sequence) (sort_of sh R d) Undo refl k ∙ ap (λ (n : ℕ). Some (cond (eqb f.block n) Undo (sort_of sh R d))) dba) k
sorted_kind sh R (Begin g) d h p dba k =
    let q = page_of sh R d in
    step_sort (folded.is_among (touched sh (Begin g)) d) (is_in d (touched_sorts sh (Begin g))) q (changed_page (Begin g) (suc (length R)) q) (sort_of sh R d) (sort_after (Begin g) d (sort_of sh R d))
    (among_same (touched sh (Begin g)) d)
    (after_sort (Begin g) (suc (length R)) (start (Begin g) (suc (length R)) q) ∙ begun_sort q (sort_of sh R d) k) k
sorted_kind sh R (Insert w) d h p dba k = plain_step sh R (Insert w) d refl refl k
sorted_kind sh R (Update w) d h p dba k = plain_step sh R (Update w) d refl refl k
sorted_kind sh R (Migrate w) d h p dba k = plain_step sh R (Migrate w) d refl refl k
sorted_kind sh R (Return w) d h p dba k = plain_step sh R (Return w) d refl refl k
sorted_kind sh R (Delete w) d h p dba k = plain_step sh R (Delete w) d refl refl k
sorted_kind sh R (Class w) d h p dba k = plain_step sh R (Class w) d refl refl k
sorted_kind sh R (Commit w) d h p dba k = plain_step sh R (Commit w) d refl refl k
sorted_kind sh R (Ended w) d h p dba k = plain_step sh R (Ended w) d refl refl k
sorted_kind sh R (Clean w) d h p dba k = plain_step sh R (Clean w) d refl refl k
sorted_kind sh R (Back w) d h p dba k = plain_step sh R (Back w) d refl refl k
sorted_kind sh R (Move m) d h p dba k = plain_step sh R (Move m) d refl refl k

pub pages_sorted : (sh : Shape) (R : List Record) (d : ℕ) → AreAllowed sh R → Plain R d → sort_name (page_of sh R d) ≡ Some (sort_of sh R d)
pages_sorted sh [] d h p = refl
pages_sorted sh (r ∷ R) d h p = sorted_kind sh R r d h p (dba_says R d (page_of sh R d) (says sh R d)) (pages_sorted sh R d h.0 (plain_before r R d p))
