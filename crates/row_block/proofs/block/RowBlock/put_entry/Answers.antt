use Rattle.row_block.proofs.Held.{enter_inside}
use Rattle.row_block.proofs.block.RowBlock.put_entry.Goals as goal

pub invariant_of-self : goal.invariant_of-self
invariant_of-self c = record {
  held = enter_inside c.self.inside.dba c.self.inside.lsn c.self.inside.slots.items c.self.inside.entries c.put.new.self c.args.self.now c.args.i c.args.entry c.self.view_is c.self.invariant.held c.requires c.put.ensures;
  slots = c.self.invariant.slots;
}
