-- What a record does to the page of the transaction table, and when it can be done.
use Rattle.std.specs.Prelude.{ℕ, ◌<◌, slice_set, slice_get, Option, Some, None}
use Rattle.seg_words.specs.Types.{TXN_ENTRIES}
use Rattle.seg_base.specs.declared.slot.UndoAddr.{UndoAddr}
use Rattle.txn_block.specs.declared.entry.Outcome.{Outcome}
use Rattle.txn_block.specs.declared.entry.Outcome.TheVariants.{Active, Committed, RolledBack}
use Rattle.txn_block.specs.declared.entry.TableEntry.TheVariants.{Used}
use Rattle.txn_block.specs.Entries.{undo_told}
use Rattle.txn_block.specs.Tables.{TxnTable}
use Rattle.redo_record.specs.declared.record.Record.{Record}
use Rattle.redo_record.specs.declared.record.Record.TheVariants.{Begin, Reuse, Insert, Update, Migrate, Return, Delete, Commit, Back, Ended}
use Rattle.redo_record.specs.declared.row.RowBody.{RowBody}

-- entry i, written anew
abbrev pub with_entry : TxnTable → ℕ → ℕ → Outcome → Option UndoAddr → TxnTable
with_entry t i txn outcome undo = record t { entries = slice_set t.entries i (Used (record { txn = txn; outcome = outcome; last_undo = undo })) }

-- the last undo address that entry i has
abbrev pub undo_at : TxnTable → ℕ → Option UndoAddr
undo_at t i = undo_told (slice_get t.entries i)

abbrev pub with_row_record : RowBody → TxnTable → TxnTable
with_row_record w t = with_entry t w.entry w.txn Active (Some w.undo)

abbrev pub txns_changed : Record → TxnTable → TxnTable
txns_changed (Begin g) t = with_entry (record t { last_txn = g.txn; control = g.control }) g.entry g.txn Active None
txns_changed (Reuse q) t = record t { current_undo = Some q.block }
txns_changed (Insert w) t = with_row_record w (record t { last_row = w.row })
txns_changed (Update w) t = with_row_record w t
txns_changed (Migrate w) t = with_row_record w t
txns_changed (Return w) t = with_row_record w t
txns_changed (Delete w) t = with_row_record w t
txns_changed (Commit c) t = with_entry t c.entry c.txn (Committed c.number) (undo_at t c.entry)
txns_changed (Back k) t = with_entry t k.entry k.txn Active k.last
txns_changed (Ended e) t = with_entry t e.entry e.txn RolledBack (undo_at t e.entry)
txns_changed _ t = t

abbrev pub txns_after : Record → ℕ → TxnTable → TxnTable
txns_after r lsn t = record (txns_changed r t) { lsn = lsn }

abbrev pub UndoIsBlock : Option UndoAddr → Type 0
UndoIsBlock None = Unit {0}
UndoIsBlock (Some a) = 0 < a.block

abbrev pub RowFits : RowBody → Type 0
RowFits w = (w.entry < TXN_ENTRIES) × (0 < w.undo.block)

abbrev pub TxnsFit : Record → Type 0
TxnsFit (Begin g) = g.entry < TXN_ENTRIES
TxnsFit (Reuse q) = 0 < q.block
TxnsFit (Insert w) = RowFits w
TxnsFit (Update w) = RowFits w
TxnsFit (Migrate w) = RowFits w
TxnsFit (Return w) = RowFits w
TxnsFit (Delete w) = RowFits w
TxnsFit (Commit c) = c.entry < TXN_ENTRIES
TxnsFit (Back k) = (k.entry < TXN_ENTRIES) × UndoIsBlock k.last
TxnsFit (Ended e) = e.entry < TXN_ENTRIES
TxnsFit _ = ⊥
