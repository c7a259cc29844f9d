use Rattle.std.proofs.Common.{arith, ap, List, ℕ, length}
use Rattle.seg_words.specs.Types.{slot_bytes}
use Rattle.page_bytes.proofs.Fronts.{room_next, add_made}
use Rattle.row_block.proofs.page.add_slots.Goals as goal

pub add-next-requires : goal.add-next-requires
add-next-requires c = omega (
  arith,
  ap (λ (x : List ℕ). length x) c.slot_bytes.ensures,
  room_next slot_bytes c.args.slots.now c.args.page.now c.args.at c.loop-slot.page c.loop-slot.next c.loop-slot.slot-index c.slot-item.result c.loop-slot.invariant c.loop-slot-test.true c.slot-item.is c.requires,
)

pub loop-slot-preserved : goal.loop-slot-preserved
loop-slot-preserved c = add_made slot_bytes c.args.slots.now c.args.page.now c.args.at c.loop-slot.page c.loop-slot.next c.loop-slot.slot-index c.slot-item.result c.slot_bytes.result c.add-next.new.page c.add-next.result
    c.loop-slot.invariant c.loop-slot-test.true c.slot-item.is c.slot_bytes.ensures c.add-next.ensures.place c.add-next.ensures.bytes
