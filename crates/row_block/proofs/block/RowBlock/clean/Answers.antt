use Rattle.row_block.proofs.Laid.{laid_clean}
use Rattle.row_block.proofs.block.RowBlock.clean.Goals as goal

pub invariant_of-self : goal.invariant_of-self
invariant_of-self c = laid_clean c.self.inside.laid c.args.done.now c.self.inside.slots.items c.clean_slots.new.slots.items c.self.inside.entries c.clean.new.self c.self.invariant c.clean_slots.ensures c.clean.ensures
