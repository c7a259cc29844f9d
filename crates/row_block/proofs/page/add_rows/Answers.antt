use Rattle.std.proofs.Common.{arith, ap, List, ℕ, length}
use Rattle.page_bytes.proofs.Fronts.{room_next}
use Rattle.row_block.specs.Types.{row_bytes}
use Rattle.row_block.proofs.page.add_rows.Goals as goal

pub add-next-requires : goal.add-next-requires
add-next-requires c = omega (
  arith,
  ap (λ (x : List ℕ). length x) c.as_slice.ensures,
  room_next row_bytes c.args.slots.now c.args.page.now c.args.at c.loop-slot.page c.loop-slot.next c.loop-slot.slot-index c.slot-item.result c.loop-slot.invariant c.loop-slot-test.true c.slot-item.is c.requires,
)
