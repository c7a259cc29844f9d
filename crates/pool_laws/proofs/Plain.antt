-- A record that changes a page gives it its own LSN, or leaves it.
use Rattle.std.proofs.Common.{◌≡◌, ◌⊎◌, ℕ, Bool, true, false, ◌%◌, eqb, cond, Option, Some, None, refl, inl, inr}
use Rattle.seg_words.specs.Types.{EXTENTS_OF_L2}
use Rattle.redo_record.specs.declared.record.Record.{Record}
use Rattle.redo_record.specs.declared.record.Record.TheVariants.{Table, Extend, FormatBlock, Begin, Reuse}
use Rattle.page_set.specs.declared.page.Page.{Page}
use Rattle.page_set.specs.declared.page.Page.TheVariants.{Zero, Checkpoint, Txns, Catalogue, Space, Undo, First, Second, Third, Header, Rows}
use Rattle.page_set.specs.Pages.{dba_of, lsn_of, new_first, new_header, new_rows, new_second, new_third, new_undo}
use Rattle.page_set.specs.Started.{as_catalogue, as_space, as_txns, or_kept, started}
use Rattle.page_set.specs.Changes.{page_after, changed_page}

-- a page of a kind that records change
abbrev IsChanging : Page → Type 0
IsChanging (Zero d) = ⊥
IsChanging (Checkpoint p) = ⊥
IsChanging p = Unit {0}

abbrev IsMade : Option Page → Type 0
IsMade None = Unit {0}
IsMade (Some p) = IsChanging p

made_either : (b : Bool) (x y : Option Page) → IsMade x → IsMade y → IsMade (cond b x y)
made_either true x y h k = h
made_either false x y h k = k

txns_made : (p : Page) → IsMade (as_txns p)
txns_made (Zero d) = tt
txns_made p = tt

catalogue_made : (p : Page) → IsMade (as_catalogue p)
catalogue_made (Zero d) = tt
catalogue_made p = tt

space_made : (p : Page) → IsMade (as_space p)
space_made (Zero d) = tt
space_made p = tt

started_made : (r : Record) (lsn : ℕ) (p : Page) → IsMade (started r lsn p)
started_made (Table t) lsn p = made_either (eqb (dba_of p) 2) (as_catalogue p) (Some (new_header (dba_of p) t)) (catalogue_made p) tt
started_made (Extend e) lsn p =
    let d = dba_of p in
    let third = made_either (eqb d e.l3) (cond (eqb e.index 0) (Some (new_third d)) None) (Some (new_first d lsn)) (made_either (eqb e.index 0) (Some (new_third d)) None tt tt) tt in
    let second = made_either (eqb d e.l2) (cond (eqb (e.index % EXTENTS_OF_L2) 0) (Some (new_second d)) None) (cond (eqb d e.l3) (cond (eqb e.index 0) (Some (new_third d)) None) (Some (new_first d lsn)))
    (made_either (eqb (e.index % EXTENTS_OF_L2) 0) (Some (new_second d)) None tt tt) third in
    let header = made_either (eqb d e.header) None (cond (eqb d e.l2) (cond (eqb (e.index % EXTENTS_OF_L2) 0) (Some (new_second d)) None) (cond (eqb d e.l3) (cond (eqb e.index 0) (Some (new_third d)) None) (Some (new_first d lsn)))) tt second in
    made_either (eqb d 3) (as_space p) (cond (eqb d e.header) None (cond (eqb d e.l2) (cond (eqb (e.index % EXTENTS_OF_L2) 0) (Some (new_second d)) None) (cond (eqb d e.l3) (cond (eqb e.index 0) (Some (new_third d)) None) (Some (new_first d lsn))))) (space_made p) header
started_made (FormatBlock f) lsn p = made_either (eqb f.dba (dba_of p)) (Some (new_rows (dba_of p))) None tt tt
started_made (Begin g) lsn p = txns_made p
started_made (Reuse q) lsn p = made_either (eqb q.block (dba_of p)) (Some (new_undo (dba_of p) q.sequence)) None tt tt
started_made r lsn p = tt

pub after_made : (r : Record) (lsn : ℕ) (p : Page) (o : Option Page) → IsMade o → (lsn_of (page_after r lsn (or_kept o p)) ≡ lsn) ⊎ (page_after r lsn (or_kept o p) ≡ p)
after_made r lsn (Zero d) None h = inr refl
after_made r lsn (Checkpoint c) None h = inr refl
after_made r lsn (Txns t) None h = inl refl
after_made r lsn (Catalogue c) None h = inl refl
after_made r lsn (Space s) None h = inl refl
after_made r lsn (Undo u) None h = inl refl
after_made r lsn (First m) None h = inl refl
after_made r lsn (Second m) None h = inl refl
after_made r lsn (Third m) None h = inl refl
after_made r lsn (Header x) None h = inl refl
after_made r lsn (Rows x) None h = inl refl
after_made r lsn p (Some (Zero d)) h = absurd h
after_made r lsn p (Some (Checkpoint c)) h = absurd h
after_made r lsn p (Some (Txns t)) h = inl refl
after_made r lsn p (Some (Catalogue c)) h = inl refl
after_made r lsn p (Some (Space s)) h = inl refl
after_made r lsn p (Some (Undo u)) h = inl refl
after_made r lsn p (Some (First m)) h = inl refl
after_made r lsn p (Some (Second m)) h = inl refl
after_made r lsn p (Some (Third m)) h = inl refl
after_made r lsn p (Some (Header x)) h = inl refl
after_made r lsn p (Some (Rows x)) h = inl refl

pub lsn_or_same : (r : Record) (lsn : ℕ) (p : Page) → (lsn_of (changed_page r lsn p) ≡ lsn) ⊎ (changed_page r lsn p ≡ p)
lsn_or_same r lsn p = after_made r lsn p (started r lsn p) (started_made r lsn p)
