use Rattle.std.proofs.Common.{◌≡◌, length, arith}
use Rattle.row_change.proofs.Listed.{name_next, named_all}
use Rattle.row_change.proofs.lacking.names.Goals as goal

pub loop-i-init : goal.loop-i-init
loop-i-init c = c.new-txns.ensures

pub loop-i-preserved : goal.loop-i-preserved
loop-i-preserved c = name_next c.args.block.now.block.entries c.loop-i.i c.entries-i-end.result c.name_at.result c.loop-i.txns c.push.new.self c.loop-i-test.true c.entries-i-end.ensures.count c.loop-i.invariant c.in-Ok.ensures.ok c.name_at.ensures

pub returns : goal.returns
returns c =
    let n : c.loop-i.i ≡ length c.args.block.now.block.entries = omega (arith, c.loop-i-test.false, c.loop-i.auto.i-end, c.entries-i-end.ensures.count) in
    named_all c.args.block.now.block.entries c.loop-i.i c.loop-i.txns n c.loop-i.invariant
