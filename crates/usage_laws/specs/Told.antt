-- What pages tell of a settling: the transaction table and the page of the block give the Clean, whether it is called for, and the
-- block's class.
use Rattle.std.specs.Prelude.{◌≡◌, ℕ, List}
use Rattle.seg_words.specs.Types.{Shape, class_of_block}
use Rattle.redo_model.specs.Records.{Record}
use Rattle.redo_model.specs.Model.{pctfree_of, stated_number, AreAllowed}
use Rattle.row_block.specs.Types.{RowPage}
use Rattle.txn_block.specs.Types.{TxnTable}
use Rattle.txn_block.specs.declared.entry.State as states
use Rattle.txn_block.specs.declared.entry.State.TheVariants as state
use Rattle.version_laws.specs.Types.{HoldsTable, HoldsRows, state_of, ended_by}
use Rattle.usage_laws.specs.Named.{ended_named, names_known}
use Rattle.usage_laws.specs.Drafts.{drafted_clean, calls_for_clean, ruled_class}

-- the number of a committed transaction that isn't forgotten, else 0
abbrev pub number_in : states.State → ℕ
number_in (state.Committed c) = c
number_in _ = 0

-- what a Clean states of a transaction, as the table knows it
abbrev pub stated_by : TxnTable → ℕ → ℕ
stated_by q t = number_in (state_of q t)

-- the page of a row block, with that of the transaction table
pub record SettlingTold (R : List Record) (b : ℕ) (p : RowPage) (q : TxnTable) : Type 0 where
  pub stated : stated_by q ≡ stated_number R
  pub clean : ended_named (ended_by q) (stated_by q) p.block ≡ (drafted_clean R b).ended
  pub calls : names_known (stated_by q) p.block.slots ≡ calls_for_clean R b
  pub class : (o : ℕ) → class_of_block (ended_by q) (pctfree_of R o) p.block ≡ ruled_class R o b

abbrev pub SettlingsAreTold : Type 0
SettlingsAreTold = (sh : Shape) (R : List Record) (b : ℕ) (p : RowPage) (q : TxnTable) → AreAllowed sh R → HoldsRows R b p → HoldsTable R q → SettlingTold R b p q
