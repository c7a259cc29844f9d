-- The page of the table, read and written part by part.
use Rattle.std.proofs.Common.{◌≡◌, ℕ, ◌+◌, ◌*◌, ◌≤◌, List, [], ◌++◌, length, drop, Option, refl, ap, arith, w32, w64, flat_map}
use Rattle.seg_words.specs.Types.{number_in, BLOCK_SIZE, TXN_ENTRIES}
use Rattle.page_bytes.specs.Types.{IsFront, page_of, pieces_in}
use Rattle.page_bytes.proofs.PiecesIn.{length-pieces_in, length-spelled}
use Rattle.txn_block.specs.Types.{TableEntry, TxnTable, entry_bytes, entry_in, block_from, table_in, HasEntries}
use Rattle.txn_block.specs.EntryAgain.{length-entry_bytes}
use Rattle.page_bytes.proofs.Ranges.{IsBytes, number_32}
use Rattle.txn_block.proofs.Ranges.{entries_fit, block_fits}

pub has_entries : (bytes rest : List ℕ) (block : ℕ) (undo : Option ℕ) (entries : List TableEntry) → IsBytes bytes → rest ≡ drop 48 bytes → block ≡ number_in w32 bytes 40 → undo ≡ block_from block → entries ≡ pieces_in entry_in 32 TXN_ENTRIES rest → HasEntries undo entries
has_entries bytes rest block undo entries fits r b u e = rw (e, u, b, r) (record {
  undo = block_fits (number_in w32 bytes 40) (number_32 bytes 40 fits);
  count = length-pieces_in entry_in 32 TXN_ENTRIES (drop 48 bytes);
  each = entries_fit TXN_ENTRIES 48 bytes fits;
})

pub table_read : (bytes rest : List ℕ) (dba lsn control last_txn last_row block : ℕ) (undo : Option ℕ) (entries : List TableEntry) → rest ≡ drop 48 bytes → dba ≡ number_in w32 bytes 4 → lsn ≡ number_in w64 bytes 8
    → control ≡ number_in w64 bytes 16 → last_txn ≡ number_in w64 bytes 24 → last_row ≡ number_in w64 bytes 32 → block ≡ number_in w32 bytes 40 → undo ≡ block_from block → entries ≡ pieces_in entry_in 32 TXN_ENTRIES rest
    → (let t : TxnTable = record { dba = dba; lsn = lsn; control = control; last_txn = last_txn; last_row = last_row; current_undo = undo; entries = entries } in t ≡ table_in bytes)
unfolding table_in
table_read bytes rest dba lsn control last_txn last_row block undo entries r d l c t w b u e = rw (e, u, b, r, d, l, c, t, w) refl

pub entries_fit_page : (at : ℕ) (entries : List TableEntry) → at ≡ 48 → length entries ≡ TXN_ENTRIES → at + length (flat_map entry_bytes entries) ≤ BLOCK_SIZE
entries_fit_page at entries a n = omega (arith, a, ap (λ (k : ℕ). k * 32) n, length-spelled entry_bytes 32 entries length-entry_bytes)

-- bytes were put behind those that a page begins with
abbrev pub Puts : List ℕ → ℕ → List ℕ → List ℕ → ℕ → Type 0
Puts page at bytes next end = (front : List ℕ) → IsFront page front at → IsFront next (front ++ bytes) end

pub table_written : (p0 p1 p2 p3 head numbers entries : List ℕ) (a0 a1 a2 a3 : ℕ) → IsFront p0 [] a0 → Puts p0 a0 head p1 a1 → Puts p1 a1 numbers p2 a2 → Puts p2 a2 entries p3 a3 → p3 ≡ page_of ((head ++ numbers) ++ entries)
table_written p0 p1 p2 p3 head numbers entries a0 a1 a2 a3 start first second third = (third (head ++ numbers) (second head (first [] start))).bytes
