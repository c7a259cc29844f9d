use Rattle.std.proofs.Common.{arith, ap, ◌∙◌}
use Rattle.recovery.specs.Next.{active_in}
use Rattle.recovery.proofs.Nexting.{least_next, least_all}
use Rattle.recovery.proofs.next.least_active.Goals as goal

pub loop-i-preserved : goal.loop-i-preserved
loop-i-preserved c = least_next c.args.table.now.entries c.loop-i.i c.loop-i.least c.active_in.result c.lesser-least.result c.loop-i.invariant (c.active_in.ensures ∙ ap active_in c.entry.ensures) c.lesser-least.ensures

pub returns : goal.returns
returns c = least_all c.args.table.now.entries c.loop-i.i c.loop-i.least c.loop-i.invariant (omega (arith, c.loop-i-test.false, c.loop-i.auto.i-end, c.has_spelling.ensures.count))
