use Rattle.row_block.proofs.Held.{can_set, held_page}
use Rattle.row_block.proofs.block.RowBlock.set_slot.Goals as goal

pub put_slot-requires : goal.put_slot-requires
put_slot-requires g c = can_set (g.E.Ended.has_ended c.args.ended.now) c.args.self.now.block c.args.n c.args.image c.need-need.result c.free-free.result (held_page c.self.inside.dba c.self.inside.lsn _ c.args.self.now c.self.view_is c.self.invariant.held)
    c.requires.at c.requires.most c.requires.image c.requires.form c.need-need.ensures c.free-free.ensures.value c.if-free-need.false
