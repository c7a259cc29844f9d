use Rattle.std.proofs.Common.{◌++◌, List, ℕ, subst}
use Rattle.page_bytes.specs.Types.{IsFront}
use Rattle.undo_block.proofs.Writing.{part_added}
use Rattle.undo_block.proofs.page.add_part.Goals as goal

pub returns-clause-bytes : goal.returns-clause-bytes
returns-clause-bytes c = λ front is.
    subst (λ (x : List ℕ). IsFront c.add.new.page x c.add.result) (part_added front c.part_head.result c.slot_bytes.result c.as_slice.result.now c.args.part.now c.part_head.ensures c.slot_bytes.ensures c.as_slice.ensures)
    (c.add.ensures.bytes ((front ++ c.part_head.result) ++ c.slot_bytes.result) (c.add-row_at.ensures.bytes (front ++ c.part_head.result) (c.add-slot_at.ensures.bytes front is)))
