-- A page that is spelled is read.
use Rattle.std.proofs.Common.{◌≡◌, ℕ, List, [], ◌∷◌, length, refl, sym, ap, ◌∙◌, inl, inr, Result, Ok, Err, arith}
use Rattle.std.proofs.lemmas.Bool.{eq-eqb}
use Rattle.std.specs.Prelude.{slice_index}
use Rattle.seg_words.specs.Types.{BLOCK_SIZE, EXTENTS_OF_L2}
use Rattle.page_bytes.specs.declared.fault.PageFault.{PageFault}
use Rattle.page_bytes.specs.declared.fault.PageFault.TheVariants.{BadPage, NoMemory}
use Rattle.page_bytes.specs.Pages.{first_wrong, IsReadAs}
use Rattle.bitmap_block.specs.Again.{map_again, summary_again}
use Rattle.row_block.specs.Again.{page_again as rows_again}
use Rattle.segment_blocks.specs.CatalogueAgain.{tables_again}
use Rattle.segment_blocks.specs.CheckpointAgain.{checkpoint_again}
use Rattle.segment_blocks.specs.HeaderAgain.{header_again}
use Rattle.segment_blocks.specs.SpaceAgain.{space_again}
use Rattle.txn_block.specs.Again.{table_again as txns_again}
use Rattle.undo_block.specs.Again.{page_again as undo_again}
use Rattle.bitmap_block.specs.Pages.{spelling_of_map, spelling_of_summary}
use Rattle.row_block.specs.Spelling.{spelling as spelling_of_rows}
use Rattle.segment_blocks.specs.Catalogues.{spelling_of_tables}
use Rattle.segment_blocks.specs.Checkpoints.{spelling_of_checkpoint}
use Rattle.segment_blocks.specs.Headers.{spelling_of_header}
use Rattle.segment_blocks.specs.Spaces.{spelling_of_space}
use Rattle.txn_block.specs.Pages.{spelling as spelling_of_txns}
use Rattle.undo_block.specs.UndoPage.{spelling as spelling_of_undo}
use Rattle.page_set.specs.declared.page.Page.{Page}
use Rattle.page_set.specs.declared.page.Page.TheVariants.{Zero, Checkpoint, Txns, Catalogue, Space, Undo, First, Second, Third, Header, Rows}
use Rattle.page_set.specs.Pages.{dba_of}
use Rattle.page_set.specs.Spelled.{spelling_of, HasSpelling, read_as, meaning_of, DecodesAt}

-- the kind that a page begins with
abbrev kind_of : Page → ℕ
kind_of (Zero d) = 0
kind_of (Checkpoint p) = 1
kind_of (Txns t) = 2
kind_of (Catalogue c) = 3
kind_of (Space s) = 4
kind_of (Undo u) = 6
kind_of (First m) = 7
kind_of (Second m) = 8
kind_of (Third m) = 9
kind_of (Header h) = 10
kind_of (Rows x) = 11

begins : (p : Page) → slice_index (spelling_of p) 0 ≡ kind_of p
unfolding spelling_of_checkpoint spelling_of_txns spelling_of_tables spelling_of_space spelling_of_undo spelling_of_map spelling_of_summary spelling_of_header spelling_of_rows
begins (Zero d) = refl
begins (Checkpoint p) = refl
begins (Txns t) = refl
begins (Catalogue c) = refl
begins (Space s) = refl
begins (Undo u) = refl
begins (First m) = refl
begins (Second m) = refl
begins (Third m) = refl
begins (Header h) = refl
begins (Rows x) = refl

read_again : (p : Page) → HasSpelling p → read_as (kind_of p) (dba_of p) (spelling_of p) ≡ p
read_again (Zero d) fits = refl
read_again (Checkpoint p) fits = ap Checkpoint (checkpoint_again p fits)
read_again (Txns t) fits = ap Txns (txns_again t fits)
read_again (Catalogue c) fits = ap Catalogue (tables_again c fits)
read_again (Space s) fits = ap Space (space_again s fits)
read_again (Undo u) fits = ap Undo (undo_again u fits)
read_again (First m) fits = ap First (map_again m fits)
read_again (Second m) fits = ap Second (summary_again 8 EXTENTS_OF_L2 m fits)
read_again (Third m) fits = ap Third (summary_again 9 3 m fits)
read_again (Header h) fits = ap Header (header_again h fits)
read_again (Rows x) fits = ap Rows (rows_again x fits)

pub meaning_again : (p : Page) → HasSpelling p → meaning_of (dba_of p) (spelling_of p) ≡ p
meaning_again p fits = ap (λ (k : ℕ). read_as k (dba_of p) (spelling_of p)) (begins p) ∙ read_again p fits

means : (d : ℕ) (bytes : List ℕ) (p : Page) → HasSpelling p → dba_of p ≡ d → bytes ≡ spelling_of p → meaning_of d bytes ≡ p
means d bytes p fits at is = ap (meaning_of d) is ∙ ap (λ (n : ℕ). meaning_of n (spelling_of p)) (sym at) ∙ meaning_again p fits

alike : (xs : List ℕ) → first_wrong xs xs ≡ length xs
alike [] = refl
alike (x ∷ xs) = rw (eq-eqb x x refl) (omega (arith, alike xs))

pub only : (d : ℕ) (bytes : List ℕ) (result : Result Page PageFault) → DecodesAt d bytes result → length bytes ≡ BLOCK_SIZE → (p : Page) → HasSpelling p → dba_of p ≡ d → bytes ≡ spelling_of p → IsReadAs p result
only d bytes (Ok q) h long p fits at is = h.0 ∙ means d bytes p fits at is
only d bytes (Err NoMemory) h long p fits at is = tt
only d bytes (Err (BadPage i)) h long p fits at is =
    let same : spelling_of (meaning_of d bytes) ≡ bytes = ap spelling_of (means d bytes p fits at is) ∙ sym is in
    elim h.1 [
      | inl e ↦ absurd (omega (arith, h.0, e ∙ ap (first_wrong bytes) same ∙ alike bytes, long))
      | inr other ↦ other.1.0 (ap dba_of (means d bytes p fits at is) ∙ at)
    ]
