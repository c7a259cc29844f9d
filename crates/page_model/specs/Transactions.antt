-- What a transaction table holds that is what a redo list makes it: an equation for each field of its value.
use Rattle.std.specs.Prelude.{◌≡◌, ℕ, ◌<◌, cond, List, length, Option, Some, None}
use Rattle.seg_words.specs.Types.{TXN_ENTRIES}
use Rattle.redo_model.specs.Records.{Record}
use Rattle.redo_model.specs.Model.{txn_count, row_count, is_active, commit_number, control_number, user_of, last_undo, current_undo}
use Rattle.txn_block.specs.declared.entry.Outcome.{Outcome}
use Rattle.txn_block.specs.declared.entry.Outcome.TheVariants.{Active, Committed, RolledBack}
use Rattle.txn_block.specs.declared.entry.TableEntry.{TableEntry}
use Rattle.txn_block.specs.declared.entry.TableEntry.TheVariants.{Unused, Used}
use Rattle.txn_block.specs.Types.{TxnTable, entry_at}

abbrev pub outcome_when_over : Option ℕ → Outcome
outcome_when_over None = RolledBack
outcome_when_over (Some c) = Committed c

abbrev pub outcome_of : List Record → ℕ → Outcome
outcome_of R t = cond (is_active R t) Active (outcome_when_over (commit_number R t))

-- the entry of a transaction, or of none
abbrev pub entry_used_by : List Record → Option ℕ → TableEntry
entry_used_by R None = Unused
entry_used_by R (Some t) = Used (record { txn = t; outcome = outcome_of R t; last_undo = last_undo R t })

abbrev pub table_entry : List Record → ℕ → TableEntry
table_entry R i = entry_used_by R (user_of R i)

-- each of the 96 entries is that of its user: its state and its last undo
pub record HoldsTable (R : List Record) (p : TxnTable) : Type 0 where
  pub control : p.control ≡ control_number R
  pub last_txn : p.last_txn ≡ txn_count R
  pub last_row : p.last_row ≡ row_count R
  pub current : p.current_undo ≡ current_undo R
  pub count : length p.entries ≡ TXN_ENTRIES
  pub entries : (i : ℕ) → i < TXN_ENTRIES → entry_at p.entries i ≡ table_entry R i
