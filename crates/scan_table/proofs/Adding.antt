-- One row more, or none.
use Rattle.std.proofs.Common.{◌≡◌, ℕ, List, [], ◌∷◌, ◌++◌, option_to_list, Option, Some, None, sym, ◌∙◌, ap}
use Rattle.redo_model.specs.Records.{Record}
use Rattle.version_read.specs.Walking.{txn_or_none}
use Rattle.history_text.specs.declared.outcome.RowOut.{RowOut}
use Rattle.scan_table.specs.declared.reader.Reader.{Reader}
use Rattle.scan_table.specs.Reading.{SlotAdded, SlotGives}
use Rattle.scan_table.proofs.Going.{append_none}

pub none_added : (R : List Record) (q : Reader) (b k : ℕ) (rows : List RowOut) → SlotGives R b k q.at (txn_or_none q.own) None → SlotAdded R b k q.at (txn_or_none q.own) rows rows
none_added R q b k rows g = record { ends = g.ends; rows_are = sym (append_none rows) ∙ ap (λ (o : Option RowOut). rows ++ option_to_list o) g.row_is }

pub row_added : (R : List Record) (q : Reader) (b k : ℕ) (row : RowOut) (old new : List RowOut) → SlotGives R b k q.at (txn_or_none q.own) (Some row) → new ≡ old ++ row ∷ [] → SlotAdded R b k q.at (txn_or_none q.own) old new
row_added R q b k row old new g e = record { ends = g.ends; rows_are = e ∙ ap (λ (o : Option RowOut). old ++ option_to_list o) g.row_is }
