use Rattle.std.proofs.Common.{◌∙◌, ap}
use Rattle.seg_words.specs.Types.{Shrink, takes}
use Rattle.txn_block.specs.Types.{TxnTable}
use Rattle.version_laws.specs.Types.{ended_by}
use Rattle.shrink_move.proofs.taking.takes_row.Goals as goal

pub returns : goal.returns
returns c = c.takes.ensures ∙ ap (λ (t : TxnTable). takes (ended_by t) c.args.pctfree c.args.rows.now.block c.args.len Shrink) c.of-ended.ensures
