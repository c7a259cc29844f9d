-- An entry that is spelled is read.
use Rattle.std.proofs.Common.{◌≡◌, ℕ, zero, suc, ◌<◌, ◌^◌, length, Option, Some, None, refl, arith, w32, w64}
use Rattle.seg_words.proofs.Lemmas.{from_be_bytes-to_be_bytes_4, from_be_bytes-to_be_bytes_8}
use Rattle.seg_words.specs.Types.{UndoAddr, number_in, undo_or_zeros}
use Rattle.page_bytes.specs.Types.{undo_as, UndoFits}
use Rattle.txn_block.specs.OwnTypes.{Outcome, Active, Committed, RolledBack, TxnEntry, TableEntry, Unused, Used}
use Rattle.txn_block.specs.EntryBytes.{outcome_code, number_or_zero, used_bytes, entry_bytes, entry_told, entry_in, IsUsed, IsEntry}

pub length-entry_bytes : (e : TableEntry) → length (entry_bytes e) ≡ 32
unfolding entry_bytes
length-entry_bytes Unused = refl
length-entry_bytes (Used e) = refl

some_undo : (b seq nth : ℕ) → 0 < b → undo_as b seq nth ≡ Some (record { block = b; seq = seq; nth = nth })
some_undo zero seq nth h = absurd (omega arith)
some_undo (suc b) seq nth h = refl

undo_again : (o : Option UndoAddr) → UndoFits o → undo_as (undo_or_zeros o).block (undo_or_zeros o).seq (undo_or_zeros o).nth ≡ o
undo_again None h = refl
undo_again (Some a) h = some_undo a.block a.seq a.nth h.0

undo_block_fits : (o : Option UndoAddr) → UndoFits o → (undo_or_zeros o).block < 2 ^ 32
undo_block_fits None h = omega arith
undo_block_fits (Some a) h = h.1

undo_seq_fits : (o : Option UndoAddr) → UndoFits o → (undo_or_zeros o).seq < 2 ^ 64
undo_seq_fits None h = omega arith
undo_seq_fits (Some a) h = h.2

outcome_again : (txn : ℕ) (o : Outcome) (undo : Option UndoAddr) → entry_told txn (outcome_code o) (number_or_zero o) undo ≡ Used (record { txn = txn; outcome = o; last_undo = undo })
outcome_again txn Active undo = refl
outcome_again txn (Committed c) undo = refl
outcome_again txn RolledBack undo = refl

used_again : (e : TxnEntry) → IsUsed e → entry_in (used_bytes e) ≡ Used e
unfolding entry_in
used_again e fits =
    let e1 : number_in w64 (used_bytes e) 0 ≡ e.txn = from_be_bytes-to_be_bytes_8 e.txn fits.txn in
    let e2 : number_in w64 (used_bytes e) 9 ≡ number_or_zero e.outcome = from_be_bytes-to_be_bytes_8 (number_or_zero e.outcome) fits.number in
    let e3 : number_in w32 (used_bytes e) 17 ≡ (undo_or_zeros e.last_undo).block = from_be_bytes-to_be_bytes_4 (undo_or_zeros e.last_undo).block (undo_block_fits e.last_undo fits.undo) in
    let e4 : number_in w64 (used_bytes e) 21 ≡ (undo_or_zeros e.last_undo).seq = from_be_bytes-to_be_bytes_8 (undo_or_zeros e.last_undo).seq (undo_seq_fits e.last_undo fits.undo) in
    rw (e1, e2, e3, e4, undo_again e.last_undo fits.undo) (outcome_again e.txn e.outcome e.last_undo)

pub entry_again : (e : TableEntry) → IsEntry e → entry_in (entry_bytes e) ≡ e
unfolding entry_bytes entry_in
entry_again Unused fits = refl
entry_again (Used e) fits = used_again e fits
