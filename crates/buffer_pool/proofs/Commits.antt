-- What a Commit on the page of the transaction table shows.
use Rattle.std.proofs.Common.{◌≡◌, ℕ, Bool, true, false, ◌||◌, cond, nat_eq, List, [], ◌∷◌, Some, IsSome, refl, sym, ap, subst, ◌∙◌}
use Rattle.std.proofs.lemmas.Bool.{eqb-true}
use Rattle.seg_words.specs.Types.{Shape, TXN_TABLE_BLOCK}
use Rattle.redo_record.specs.declared.record.Record.TheVariants.{Commit}
use Rattle.redo_record.specs.declared.transaction.CommitRecord.{CommitRecord}
use Rattle.page_set.specs.declared.page.Page.{Page}
use Rattle.page_set.specs.Changes.{changed_page, Fits}
use Rattle.buffer_pool.specs.declared.frame.Frame.{Frame}
use Rattle.buffer_pool.specs.Frames.{dirty_frame, frame_at, framed, has_page, HasOnlyPages, Pool, Shows}
use Rattle.buffer_pool.specs.Preparing.{changed_at, Installed}
use Rattle.buffer_pool.proofs.Installs.{installed_first, shows_installed}

module _ (sh : Shape) (pages : ℕ → List ℕ) (image : ℕ → Page) (c : CommitRecord) (lsn : ℕ) (f : Frame) (es new : List (ℕ × Frame))
    (only : HasOnlyPages sh ((TXN_TABLE_BLOCK, f) ∷ es)) (s : Shows sh pages image ((TXN_TABLE_BLOCK, f) ∷ es)) where
  -- the frame has the page that is shown
  table_page : f.page ≡ image TXN_TABLE_BLOCK
  table_page = (s.at TXN_TABLE_BLOCK (only.at TXN_TABLE_BLOCK refl)).0

  pub fits_in_frame : Fits (Commit c) lsn (image TXN_TABLE_BLOCK) → Fits (Commit c) lsn (framed ((TXN_TABLE_BLOCK, f) ∷ es) TXN_TABLE_BLOCK)
  fits_in_frame fits = subst (Fits (Commit c) lsn) (sym table_page) fits

  pub shows_commit : Installed (record { dba = TXN_TABLE_BLOCK; page = changed_page (Commit c) lsn (framed ((TXN_TABLE_BLOCK, f) ∷ es) TXN_TABLE_BLOCK) } ∷ []) ((TXN_TABLE_BLOCK, f) ∷ es) new
      → Shows sh pages (changed_at sh (Commit c) lsn image) new
  shows_commit i = shows_installed sh pages image (changed_at sh (Commit c) lsn image) (record { dba = TXN_TABLE_BLOCK; page = changed_page (Commit c) lsn f.page } ∷ []) ((TXN_TABLE_BLOCK, f) ∷ es) new i s
      (λ d has. decide d (nat_eq TXN_TABLE_BLOCK d) refl)
    where
      decide : (d : ℕ) (t : Bool) → nat_eq TXN_TABLE_BLOCK d ≡ t → cond t (changed_page (Commit c) lsn f.page) (image d) ≡ cond (t || false) (changed_page (Commit c) lsn (image d)) (image d)
      decide d true e = ap (changed_page (Commit c) lsn) (table_page ∙ ap image (eqb-true TXN_TABLE_BLOCK d e))
      decide d false e = refl

-- the frame in front changed

pub only_front : (sh : Shape) (n : ℕ) (f g : Frame) (es : List (ℕ × Frame)) → HasOnlyPages sh ((n, f) ∷ es) → HasOnlyPages sh ((n, g) ∷ es)
only_front sh n f g es only = record {
  at = λ d. (elim (nat_eq d n) as (λ t. (IsSome (cond t (Some f) (frame_at es d)) → has_page sh d ≡ true) → IsSome (cond t (Some g) (frame_at es d)) → has_page sh d ≡ true) [
    | true ↦ λ old h. old refl
    | false ↦ λ old h. old h
  ]) (only.at d);
}

abbrev pool_of : Shape → List (ℕ × Frame) → ℕ → Pool
pool_of sh held dirty = record { shape = sh; held = held; dirty = dirty }

pub front_same : (sh : Shape) (n : ℕ) (f g : Frame) (es : List (ℕ × Frame)) (count more : ℕ) → g ≡ f → more ≡ count → pool_of sh ((n, g) ∷ es) more ≡ pool_of sh ((n, f) ∷ es) count
front_same sh n f g es count more same as_many = ap (λ (h : Frame). pool_of sh ((n, h) ∷ es) more) same ∙ ap (λ (k : ℕ). pool_of sh ((n, f) ∷ es) k) as_many

module _ (c : CommitRecord) (lsn : ℕ) (f g : Frame) (es : List (ℕ × Frame)) (is : Fits (Commit c) lsn f.page → g ≡ dirty_frame (changed_page (Commit c) lsn f.page)) where
  pub committed : Fits (Commit c) lsn (framed ((TXN_TABLE_BLOCK, f) ∷ es) TXN_TABLE_BLOCK)
      → Installed (record { dba = TXN_TABLE_BLOCK; page = changed_page (Commit c) lsn (framed ((TXN_TABLE_BLOCK, f) ∷ es) TXN_TABLE_BLOCK) } ∷ []) ((TXN_TABLE_BLOCK, f) ∷ es) ((TXN_TABLE_BLOCK, g) ∷ es)
  committed fits =
      subst (λ (h : Frame). Installed (record { dba = TXN_TABLE_BLOCK; page = changed_page (Commit c) lsn f.page } ∷ []) ((TXN_TABLE_BLOCK, f) ∷ es) ((TXN_TABLE_BLOCK, h) ∷ es)) (sym (is fits))
      (installed_first TXN_TABLE_BLOCK f (changed_page (Commit c) lsn f.page) es)

  pub shows_committed : (sh : Shape) (pages : ℕ → List ℕ) (image : ℕ → Page) → HasOnlyPages sh ((TXN_TABLE_BLOCK, f) ∷ es) → Fits (Commit c) lsn (image TXN_TABLE_BLOCK)
      → Shows sh pages image ((TXN_TABLE_BLOCK, f) ∷ es) → Shows sh pages (changed_at sh (Commit c) lsn image) ((TXN_TABLE_BLOCK, g) ∷ es)
  shows_committed sh pages image only fits s =
      shows_commit sh pages image c lsn f es ((TXN_TABLE_BLOCK, g) ∷ es) only s (committed (fits_in_frame sh pages image c lsn f es ((TXN_TABLE_BLOCK, g) ∷ es) only s fits))
