use Rattle.std.proofs.Common.{ℕ, ◌∙◌, ap}
use Rattle.txn_block.specs.Types.{TxnTable}
use Rattle.version_laws.specs.Types.{ended_by}
use Rattle.lowering.specs.Asked.{are_reusable_below}
use Rattle.lowering.proofs.Vacancy.{below_all}
use Rattle.lowering.proofs.slots.is_vacant.Goals as goal

pub returns : goal.returns
returns c =
    c.are_reusable_below.ensures
    ∙ ap (λ (t : TxnTable). are_reusable_below (ended_by t) c.args.rows.now.block.slots c.slots.result) c.of-ended.ensures
    ∙ ap (λ (n : ℕ). are_reusable_below (ended_by c.args.table.now) c.args.rows.now.block.slots n) c.slots.ensures.count
    ∙ below_all (ended_by c.args.table.now) c.args.rows.now.block.slots
