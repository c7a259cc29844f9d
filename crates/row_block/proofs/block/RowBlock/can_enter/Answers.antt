use Rattle.std.proofs.Common.{arith}
use Rattle.row_block.proofs.Held.{can_enter_old, can_enter_new, held_page}
use Rattle.row_block.proofs.block.RowBlock.can_enter.Goals as goal

pub returns-then-i-count-2 : goal.returns-then-i-count-2
returns-then-i-count-2 c = can_enter_old c.args.self.now.block c.args.i (held_page c.self.inside.dba c.self.inside.lsn _ c.args.self.now c.self.view_is c.self.invariant.held) (omega arith) c.if-i-ge-MOST_LIST_ENTRIES.false

pub returns : goal.returns
returns c = can_enter_new c.args.self.now.block c.args.i c.laid_out.result (held_page c.self.inside.dba c.self.inside.lsn _ c.args.self.now c.self.view_is c.self.invariant.held) (omega arith) (omega arith) c.if-i-ge-MOST_LIST_ENTRIES.false c.laid_out.ensures.value
