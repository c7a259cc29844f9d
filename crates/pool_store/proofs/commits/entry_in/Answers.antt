use Rattle.std.proofs.Common.{◌∙◌, sym, ap, position}
use Rattle.txn_block.specs.Entries.{names}
use Rattle.txn_block.specs.Tables.{TxnTable}
use Rattle.pool_store.proofs.Committing.{same_table}
use Rattle.pool_store.proofs.commits.entry_in.Goals as goal

pub returns-in-Txns : goal.returns-in-Txns
returns-in-Txns c = λ file R table shows page.
    c.entry_of.ensures ∙ ap (λ (t : TxnTable). position (names c.args.txn) t.entries) (same_table c.in-Txns.table table (sym c.in-Txns.is ∙ c.table.ensures.page file R shows ∙ page))

pub returns-in_default : goal.returns-in_default
returns-in_default c = λ file R table shows page. absurd (c.in_default.not-Txns table (c.table.ensures.page file R shows ∙ page))
