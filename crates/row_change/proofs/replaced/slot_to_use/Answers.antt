use Rattle.std.proofs.Common.{◌≡◌, length, arith}
use Rattle.seg_words.specs.Types.{is_reusable}
use Rattle.version_laws.specs.Types.{ended_by}
use Rattle.row_change.proofs.Written.{first_reusable, none_reusable}
use Rattle.row_change.proofs.replaced.slot_to_use.Goals as goal

pub returns-then-is_reusable_at : goal.returns-then-is_reusable_at
returns-then-is_reusable_at c = first_reusable (is_reusable (ended_by c.args.ended.now.table.now)) c.args.block.now.block.slots c.loop-n.n c.slots-n-end.result c.is_reusable_at.result c.loop-n-test.true c.slots-n-end.ensures.count c.is_reusable_at.ensures c.if-is_reusable_at.true c.loop-n.invariant

pub returns : goal.returns
returns c =
    let n : c.loop-n.n ≡ length c.args.block.now.block.slots = omega (arith, c.loop-n-test.false, c.loop-n.auto.n-end, c.slots-n-end.ensures.count) in
    none_reusable (is_reusable (ended_by c.args.ended.now.table.now)) c.args.block.now.block.slots c.loop-n.n c.slots.result n c.slots.ensures.count c.loop-n.invariant
