-- A transaction table that is spelled is read.
use Rattle.std.proofs.Common.{◌≡◌, ℕ, zero, suc, ◌-◌, ◌<◌, ◌^◌, List, ◌++◌, length, Option, Some, None, refl, sym, ap, ◌∙◌, arith, replicate, w32, w64, flat_map}
use Rattle.seg_words.proofs.Lemmas.{from_be_bytes-to_be_bytes_4, from_be_bytes-to_be_bytes_8}
use Rattle.seg_words.specs.Types.{number_in, BLOCK_SIZE, TXN_ENTRIES}
use Rattle.page_bytes.specs.Types.{pieces_in}
use Rattle.page_bytes.proofs.PiecesIn.{pieces_again}
use Rattle.txn_block.specs.Tables.{TxnTable}
use Rattle.txn_block.specs.EntryBytes.{entry_bytes, entry_in, IsEntry}
use Rattle.txn_block.specs.EntryAgain.{length-entry_bytes, entry_again}
use Rattle.txn_block.specs.Pages.{block_or_zero, block_from, front, spelling, table_in, BlockFits, IsTable}

some_block : (b : ℕ) → 0 < b → block_from b ≡ Some b
some_block zero h = absurd (omega arith)
some_block (suc b) h = refl

block_again : (o : Option ℕ) → BlockFits o → block_from (block_or_zero o) ≡ o
block_again None h = refl
block_again (Some b) h = some_block b h.0

block_fits : (o : Option ℕ) → BlockFits o → block_or_zero o < 2 ^ 32
block_fits None h = omega arith
block_fits (Some b) h = h.1

pub table_again : (t : TxnTable) → IsTable t → table_in (spelling t) ≡ t
unfolding spelling table_in
table_again t fits =
    let zeros : List ℕ = replicate (BLOCK_SIZE - length (front t)) 0 in
    let e1 : number_in w32 (spelling t) 4 ≡ t.dba = from_be_bytes-to_be_bytes_4 t.dba fits.dba in
    let e2 : number_in w64 (spelling t) 8 ≡ t.lsn = from_be_bytes-to_be_bytes_8 t.lsn fits.lsn in
    let e3 : number_in w64 (spelling t) 16 ≡ t.control = from_be_bytes-to_be_bytes_8 t.control fits.control in
    let e4 : number_in w64 (spelling t) 24 ≡ t.last_txn = from_be_bytes-to_be_bytes_8 t.last_txn fits.last_txn in
    let e5 : number_in w64 (spelling t) 32 ≡ t.last_row = from_be_bytes-to_be_bytes_8 t.last_row fits.last_row in
    let e6 : number_in w32 (spelling t) 40 ≡ block_or_zero t.current_undo = from_be_bytes-to_be_bytes_4 (block_or_zero t.current_undo) (block_fits t.current_undo fits.current_undo) in
    let e7 : pieces_in entry_in 32 TXN_ENTRIES (flat_map entry_bytes t.entries ++ zeros) ≡ t.entries
    = ap (λ (n : ℕ). pieces_in entry_in 32 n (flat_map entry_bytes t.entries ++ zeros)) (sym fits.count)
    ∙ pieces_again entry_bytes entry_in IsEntry 32 t.entries zeros length-entry_bytes entry_again fits.entries in
    rw (e1, e2, e3, e4, e5, e6, block_again t.current_undo fits.current_undo, e7) refl
