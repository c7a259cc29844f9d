-- A record that fits the transaction table leaves a table that has a spelling.
use Rattle.std.proofs.Common.{ℕ, ◌<◌, ◌^◌, ◌∙◌, Option, Some, None, arith}
use Rattle.std.specs.Prelude.{slice_get, IfSome}
use Rattle.std.proofs.lemmas.List.{length-set}
use Rattle.seg_words.specs.Types.{UndoAddr}
use Rattle.page_bytes.specs.Types.{UndoFits}
use Rattle.txn_block.specs.declared.entry.Outcome.{Outcome}
use Rattle.txn_block.specs.declared.entry.Outcome.TheVariants.{Active, Committed, RolledBack}
use Rattle.txn_block.specs.declared.entry.TableEntry.{TableEntry}
use Rattle.txn_block.specs.declared.entry.TableEntry.TheVariants.{Unused, Used}
use Rattle.txn_block.specs.EntryBytes.{IsEntry, number_or_zero}
use Rattle.txn_block.specs.Entries.{undo_told}
use Rattle.txn_block.specs.Tables.{TxnTable}
use Rattle.txn_block.proofs.Standing.{entry_fits}
use Rattle.redo_model.specs.Records.{Record, Begin, Reuse, Insert, Update, Migrate, Return, Delete, Commit, Back, Ended, RowBody, IsUndo, IsRowBody, HasSpelling}
use Rattle.page_set.specs.Txns.{with_entry, with_row_record, undo_at, txns_changed, RowFits, TxnsFit}
use Rattle.page_says.proofs.Fields.{TxnsHave, set_all}

abbrev Have : TxnTable → Type 0
Have t = TxnsHave t.control t.last_txn t.last_row t.current_undo t.entries

entry_have : (t : TxnTable) (i txn : ℕ) (o : Outcome) (u : Option UndoAddr) → txn < 2 ^ 64 → number_or_zero o < 2 ^ 64 → UndoFits u → Have t → Have (with_entry t i txn o u)
entry_have t i txn o u a b c h = record {
  control_fits = h.control_fits;
  txn_fits = h.txn_fits;
  row_fits = h.row_fits;
  undo_fits = h.undo_fits;
  count = length-set t.entries i _ ∙ h.count;
  each = set_all IsEntry t.entries i _ (record { txn = a; number = b; undo = c }) h.each;
}

told_fits : (o : Option TableEntry) → IfSome o IsEntry → UndoFits (undo_told o)
told_fits None h = tt
told_fits (Some Unused) h = tt
told_fits (Some (Used e)) h = h.undo

undo_there : (t : TxnTable) (i : ℕ) → Have t → UndoFits (undo_at t i)
undo_there t i h = told_fits (slice_get t.entries i) (entry_fits t.entries i h.each)

undo_is : (o : Option UndoAddr) → IsUndo o → UndoFits o
undo_is None h = tt
undo_is (Some a) h = (h.0, h.1.0, h.1.1.0, h.1.1.1)

row_have : (w : RowBody) (t : TxnTable) → IsRowBody w → RowFits w → Have t → Have (with_row_record w t)
row_have w t s f h = entry_have t w.entry w.txn Active (Some w.undo) s.txn (omega arith) (f.1, s.undo.0, s.undo.1.0, s.undo.1.1) h

pub txns_have : (r : Record) (t : TxnTable) → HasSpelling r → TxnsFit r → Have t → Have (txns_changed r t)
txns_have (Begin g) t s f h = entry_have (record t { last_txn = g.txn; control = g.control }) g.entry g.txn Active None s.txn (omega arith) tt (record {
  control_fits = s.control;
  txn_fits = s.txn;
  row_fits = h.row_fits;
  undo_fits = h.undo_fits;
  count = h.count;
  each = h.each;
})
txns_have (Reuse q) t s f h = record { control_fits = h.control_fits; txn_fits = h.txn_fits; row_fits = h.row_fits; undo_fits = (f, s.block); count = h.count; each = h.each }
txns_have (Insert w) t s f h = row_have w (record t { last_row = w.row }) s f (record {
  control_fits = h.control_fits;
  txn_fits = h.txn_fits;
  row_fits = s.row;
  undo_fits = h.undo_fits;
  count = h.count;
  each = h.each;
})
txns_have (Update w) t s f h = row_have w t s f h
txns_have (Migrate w) t s f h = row_have w t s f h
txns_have (Return w) t s f h = row_have w t s f h
txns_have (Delete w) t s f h = row_have w t s f h
txns_have (Commit c) t s f h = entry_have t c.entry c.txn (Committed c.number) (undo_at t c.entry) s.txn s.number (undo_there t c.entry h) h
txns_have (Back k) t s f h = entry_have t k.entry k.txn Active k.last s.txn (omega arith) (undo_is k.last s.last) h
txns_have (Ended e) t s f h = entry_have t e.entry e.txn RolledBack (undo_at t e.entry) s.txn (omega arith) (undo_there t e.entry h) h
txns_have _ t s f h = absurd f
