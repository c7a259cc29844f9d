use Rattle.std.proofs.Common.{◌≡◌, ◌+◌, ◌++◌, List, ℕ, length, subst, arith, flat_map}
use Rattle.page_bytes.specs.Types.{IsFront}
use Rattle.page_bytes.proofs.Fronts.{room_next, add_next, all_added}
use Rattle.undo_block.specs.Types.{part_bytes}
use Rattle.undo_block.specs.Again.{length-part_bytes, length-parts}
use Rattle.undo_block.proofs.page.add_parts.Goals as goal

pub add_part-next-requires : goal.add_part-next-requires
add_part-next-requires c = omega (
  arith,
  length-part_bytes c.part-item.result,
  room_next part_bytes c.args.parts.now c.args.page.now c.args.at c.loop-part.page c.loop-part.next c.loop-part.part-index c.part-item.result c.loop-part.invariant c.loop-part-test.true c.part-item.is (omega (arith, length-parts c.args.parts.now, c.requires)),
)

pub loop-part-preserved : goal.loop-part-preserved
loop-part-preserved c = add_next part_bytes c.args.parts.now c.args.page.now c.args.at c.loop-part.page c.loop-part.next c.loop-part.part-index c.part-item.result c.add_part-next.new.page c.add_part-next.result c.loop-part.invariant c.loop-part-test.true c.part-item.is
    (omega (arith, c.add_part-next.ensures.place, length-part_bytes c.part-item.result)) c.add_part-next.ensures.bytes

pub returns : goal.returns
returns c =
    let all : (c.loop-part.next ≡ c.args.at + length (flat_map part_bytes c.args.parts.now)) × ((front : List ℕ) → IsFront c.args.page.now front c.args.at → IsFront c.loop-part.page (front ++ flat_map part_bytes c.args.parts.now) c.loop-part.next)
    = all_added part_bytes c.args.parts.now c.args.page.now c.args.at c.loop-part.page c.loop-part.next c.loop-part.part-index c.loop-part.invariant c.loop-part-test.false in
    λ front is. subst (λ (n : ℕ). IsFront c.loop-part.page (front ++ flat_map part_bytes c.args.parts.now) n) (omega (arith, all.0, length-parts c.args.parts.now)) (all.1 front is)
