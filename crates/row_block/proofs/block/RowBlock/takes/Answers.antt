use Rattle.row_block.proofs.Held.{held_page}
use Rattle.row_block.proofs.Laid.{takes_none}
use Rattle.row_block.proofs.block.RowBlock.takes.Goals as goal

pub returns-then-not-may_take : goal.returns-then-not-may_take
returns-then-not-may_take g c = takes_none (g.E.Ended.has_ended c.args.ended.now) c.args.pctfree c.args.self.now.block c.args.len c.args.taker.now c.may_take.result (held_page c.self.inside.dba c.self.inside.lsn _ c.args.self.now c.self.view_is c.self.invariant.held) c.may_take.ensures c.if-not-may_take.true
