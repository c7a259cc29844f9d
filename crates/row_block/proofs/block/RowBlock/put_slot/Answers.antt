use Rattle.std.proofs.Common.{List, sym, ap, ◌∙◌}
use Rattle.seg_words.specs.Types.{Slot, new_slot, put}
use Rattle.row_block.specs.Types.{laid_slots}
use Rattle.row_block.proofs.Held.{put_inside}
use Rattle.row_block.proofs.block.RowBlock.put_slot.Goals as goal

pub invariant_of-self-2 : goal.invariant_of-self-2
invariant_of-self-2 c = record {
  held = put_inside c.self.inside.dba c.self.inside.lsn c.self.inside.slots.items c.put.new.slots.items c.self.inside.entries c.args.self.now c.args.n c.args.image c.self.view_is c.self.invariant.held c.requires c.in_ok-put.ensures.ok;
  slots = c.laid_after-laid.ensures ∙ ap (λ (ss : List Slot). laid_slots (put new_slot ss c.args.n c.args.image)) c.deref.ensures.value ∙ ap laid_slots (sym c.in_ok-put.ensures.ok);
}
