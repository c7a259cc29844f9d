use Rattle.std.proofs.Common.{◌≡◌, ℕ, List, length, ap, ◌∙◌, arith}
use Rattle.page_bytes.proofs.PiecesIn.{length-pieces_in}
use Rattle.segment_blocks.specs.Types.{extent_in}
use Rattle.segment_blocks.proofs.header.read_with.Goals as goal

pub invariant_of-result : goal.invariant_of-result
invariant_of-result c =
    let count : length c.in_ok-extents.extents.items ≡ c.args.count = ap (λ (x : List ℕ). length x) c.in_ok-extents.ensures ∙ length-pieces_in extent_in 4 c.args.count c.split_at.result.1.now in
    record { least_obj = c.obj_in.ensures.least; most_obj = c.obj_in.ensures.most; pctfree = omega (arith, c.min.ensures); count = omega (arith, count, c.requires) }
