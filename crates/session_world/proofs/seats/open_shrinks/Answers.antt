use Rattle.session_world.proofs.Shrinking.{shrinks_more}
use Rattle.session_world.proofs.seats.open_shrinks.Goals as goal

pub loop-at-preserved : goal.loop-at-preserved
loop-at-preserved c = shrinks_more c.args.seats.now c.args.who c.loop-at.at c.in_ok-v.v c.index-seats-at.result c.loop-at.shrinks.items c.add_shrink.new.shrinks.items c.in_ok-v.ensures c.loop-at-test.true c.in_ok-add_shrink.ensures c.loop-at.invariant
