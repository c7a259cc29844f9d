use Rattle.std.proofs.Common.{sym}
use Rattle.row_block.proofs.Held.{can_enter_for, held_page}
use Rattle.row_block.proofs.block.RowBlock.enter_txn.Goals as goal

pub put_entry-requires : goal.put_entry-requires
put_entry-requires g c = can_enter_for (g.E.Ended.has_ended c.args.ended.now) c.args.self.now.block c.args.txn c.in-Some.i (held_page c.self.inside.dba c.self.inside.lsn _ c.args.self.now c.self.view_is c.self.invariant.held) (sym c.in-Some.ensures.value)
