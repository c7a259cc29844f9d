-- The bytes of a page of any kind, and what some bytes read as at a block. The first byte tells the kind; a page that was
-- never written is all zeros.
use Rattle.std.specs.Prelude.{◌≡◌, ◌⊎◌, ℕ, ◌<◌, cond, eqb, List, slice_index, replicate, Result, Ok, Err}
use Rattle.seg_words.specs.Types.{BLOCK_SIZE, EXTENTS_OF_L2}
use Rattle.page_bytes.specs.declared.fault.PageFault.{PageFault}
use Rattle.page_bytes.specs.declared.fault.PageFault.TheVariants.{BadPage, NoMemory}
use Rattle.page_bytes.specs.Pages.{first_wrong}
use Rattle.bitmap_block.specs.Pages.{spelling_of_map, map_in, IsMap, spelling_of_summary, summary_in, IsSummary}
use Rattle.row_block.specs.Spelling.{spelling as spelling_of_rows, page_in as rows_in, IsRowPage}
use Rattle.segment_blocks.specs.Catalogues.{spelling_of_tables, tables_in, IsCatalogue}
use Rattle.segment_blocks.specs.Checkpoints.{spelling_of_checkpoint, checkpoint_in, IsCheckpoint}
use Rattle.segment_blocks.specs.Headers.{spelling_of_header, header_in, IsHeader}
use Rattle.segment_blocks.specs.Spaces.{spelling_of_space, space_in, IsSpace}
use Rattle.txn_block.specs.Pages.{spelling as spelling_of_txns, table_in as txns_in, IsTable}
use Rattle.undo_block.specs.UndoPage.{spelling as spelling_of_undo, page_in as undo_in, IsUndoPage}
use Rattle.page_set.specs.declared.page.Page.{Page}
use Rattle.page_set.specs.declared.page.Page.TheVariants.{Zero, Checkpoint, Txns, Catalogue, Space, Undo, First, Second, Third, Header, Rows}
use Rattle.page_set.specs.Pages.{dba_of}

abbrev pub spelling_of : Page → List ℕ
spelling_of (Zero d) = replicate BLOCK_SIZE 0
spelling_of (Checkpoint p) = spelling_of_checkpoint p
spelling_of (Txns t) = spelling_of_txns t
spelling_of (Catalogue c) = spelling_of_tables c
spelling_of (Space s) = spelling_of_space s
spelling_of (Undo u) = spelling_of_undo u
spelling_of (First m) = spelling_of_map m
spelling_of (Second m) = spelling_of_summary 8 m
spelling_of (Third m) = spelling_of_summary 9 m
spelling_of (Header h) = spelling_of_header h
spelling_of (Rows x) = spelling_of_rows x

-- the pages whose spelling is theirs alone
abbrev pub HasSpelling : Page → Type 0
HasSpelling (Zero d) = Unit {0}
HasSpelling (Checkpoint p) = IsCheckpoint p
HasSpelling (Txns t) = IsTable t
HasSpelling (Catalogue c) = IsCatalogue c
HasSpelling (Space s) = IsSpace s
HasSpelling (Undo u) = IsUndoPage u
HasSpelling (First m) = IsMap m
HasSpelling (Second m) = IsSummary EXTENTS_OF_L2 m
HasSpelling (Third m) = IsSummary 3 m
HasSpelling (Header h) = IsHeader h
HasSpelling (Rows x) = IsRowPage x

abbrev pub read_as : ℕ → ℕ → List ℕ → Page
read_as kind d bytes =
    cond (eqb kind 1) (Checkpoint (checkpoint_in bytes))
    (cond (eqb kind 2) (Txns (txns_in bytes))
    (cond (eqb kind 3) (Catalogue (tables_in bytes))
    (cond (eqb kind 4) (Space (space_in bytes))
    (cond (eqb kind 6) (Undo (undo_in bytes))
    (cond (eqb kind 7) (First (map_in bytes))
    (cond (eqb kind 8) (Second (summary_in EXTENTS_OF_L2 bytes))
    (cond (eqb kind 9) (Third (summary_in 3 bytes))
    (cond (eqb kind 10) (Header (header_in bytes))
    (cond (eqb kind 11) (Rows (rows_in bytes)) (Zero d))))))))))

-- what some bytes read as at block d, each field as the nearest value that has a spelling
abbrev pub meaning_of : ℕ → List ℕ → Page
meaning_of d bytes = read_as (slice_index bytes 0) d bytes

-- The first byte that is not of the spelling of what the bytes read as; or they spell a page of another block, whose number
-- begins at the fourth byte.
abbrev pub IsWrongAt : ℕ → List ℕ → ℕ → Type 0
IsWrongAt d bytes at =
    (at < BLOCK_SIZE) × ((at ≡ first_wrong bytes (spelling_of (meaning_of d bytes))) ⊎ ((at ≡ 4) × ((dba_of (meaning_of d bytes) ≡ d → ⊥) × (bytes ≡ spelling_of (meaning_of d bytes)))))

-- what decoding the page of block d answered
abbrev pub DecodesAt : ℕ → List ℕ → Result Page PageFault → Type 0
DecodesAt d bytes (Ok p) = (p ≡ meaning_of d bytes) × ((bytes ≡ spelling_of p) × (dba_of p ≡ d))
DecodesAt d bytes (Err (BadPage at)) = IsWrongAt d bytes at
DecodesAt d bytes (Err NoMemory) = Unit {0}
