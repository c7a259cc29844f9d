-- The record that begins a transaction, by the transaction table before it: the entry that is used next, and the control
-- number after it.
use Rattle.std.specs.Prelude.{◌≡◌, ℕ, ◌≤◌, true, false, List, ◌∷◌, Some}
use Rattle.seg_words.specs.Types.{Shape, MOST_SESSIONS}
use Rattle.redo_model.specs.Records.{Record, Begin}
use Rattle.redo_model.specs.Model.{has_open, IsLawful}
use Rattle.txn_block.specs.Types.{TxnTable, TakesNext}
use Rattle.version_laws.specs.Types.{begin_of, HoldsTable}

-- a session, from 1 to 64, that has no active transaction
pub record MayBegin (R : List Record) (who : ℕ) : Type 0 where
  pub least : 1 ≤ who
  pub most : who ≤ MOST_SESSIONS
  pub none_open : has_open R who ≡ false

-- what the table uses next is what a Begin takes
abbrev pub BeginsAreTold : Type 0
BeginsAreTold = (sh : Shape) (R : List Record) (p : TxnTable) (who entry control : ℕ) → IsLawful sh R → HoldsTable R p → MayBegin R who → TakesNext p.entries p.control (Some (entry, control)) → IsLawful sh (Begin (begin_of R who entry control) ∷ R)
