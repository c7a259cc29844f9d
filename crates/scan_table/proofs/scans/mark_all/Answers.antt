use Rattle.std.proofs.Common.{arith}
use Rattle.scan_table.proofs.Lowering.{all_marked, none_marked, one_marked}
use Rattle.scan_table.proofs.scans.mark_all.Goals as goal

pub loop-at-init : goal.loop-at-init
loop-at-init c = none_marked c.args.obj c.args.gone.now c.args.places.now.items

pub mark_at-requires : goal.mark_at-requires
mark_at-requires c = (let m = c.loop-at-test.true in let e = c.loop-at.invariant.count in omega (arith, m, e))

pub loop-at-preserved : goal.loop-at-preserved
loop-at-preserved c = one_marked c.args.obj c.args.gone.now c.args.places.now.items c.loop-at.places.items c.mark_at.new.places.items c.loop-at.at (let m = c.loop-at-test.true in let e = c.loop-at.invariant.count in omega (arith, m, e)) c.loop-at.invariant c.mark_at.ensures

pub returns-clause-count : goal.returns-clause-count
returns-clause-count c = c.loop-at.invariant.count

pub returns-clause-each : goal.returns-clause-each
returns-clause-each c = λ k. all_marked c.args.obj c.args.gone.now c.args.places.now.items c.loop-at.places.items c.loop-at.at k (let m = c.loop-at-test.false in let e = c.loop-at.invariant.count in omega (arith, m, e)) c.loop-at.invariant
