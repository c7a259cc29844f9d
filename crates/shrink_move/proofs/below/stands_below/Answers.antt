use Rattle.std.proofs.Common.{◌+◌, Ok, Err, arith}
use Rattle.store_core.proofs.Lookups.{looked_on, looked_ok}
use Rattle.shrink_move.proofs.Takers.{NoneBelow, passed_same, passed_more, passed_known, passed_unspent, none_below, one_below, all_below}
use Rattle.shrink_move.proofs.below.stands_below.Goals as goal

pub loop-position-init : goal.loop-position-init
loop-position-init g c = passed_same g.D.Disk.meaning c.args.store.now c.args.ground.now (NoneBelow c.args.ground.now c.args.dba.now 0) c.requires.unspent (λ R o i l at. absurd (omega (arith, l)))

pub returns-in-Err-clause-looked : goal.returns-in-Err-clause-looked
returns-in-Err-clause-looked g c = looked_on g.D.Disk.meaning c.args.store.now c.loop-position.store c.is_there.new.store tt (Err c.in-Err.fault) c.loop-position.invariant.looked c.in-Err.ensures.looked

pub returns-in-Err-clause-sound : goal.returns-in-Err-clause-sound
returns-in-Err-clause-sound g c = λ R o k l.
    let P = NoneBelow c.args.ground.now c.args.dba.now c.loop-position.position in
    let m = c.loop-position-test.true in
    c.in-Err.ensures.sound R o (passed_known g.D.Disk.meaning c.args.store.now c.loop-position.store R o c.args.ground.now P c.loop-position.invariant k) (omega (arith, l, m)) (passed_unspent g.D.Disk.meaning c.args.store.now c.loop-position.store c.args.ground.now P c.loop-position.invariant)

pub returns-in-Ok-true-clause-looked : goal.returns-in-Ok-true-clause-looked
returns-in-Ok-true-clause-looked g c = looked_ok g.D.Disk.meaning c.args.store.now c.is_there.new.store c.in-Ok-true.field-0 _ (looked_on g.D.Disk.meaning c.args.store.now c.loop-position.store c.is_there.new.store tt (Ok c.in-Ok-true.field-0) c.loop-position.invariant.looked c.in-Ok-true.ensures.looked)

pub returns-in-Ok-true-clause-says : goal.returns-in-Ok-true-clause-says
returns-in-Ok-true-clause-says g c = λ R o k. one_below c.args.ground.now.shape R o c.args.dba.now c.loop-position.position c.args.place c.in-Ok-true.field-0 c.in-Ok-true.field-0-test c.loop-position-test.true
    (c.in-Ok-true.ensures.says R o (passed_known g.D.Disk.meaning c.args.store.now c.loop-position.store R o c.args.ground.now (NoneBelow c.args.ground.now c.args.dba.now c.loop-position.position) c.loop-position.invariant k))

pub returns-clause-looked : goal.returns-clause-looked
returns-clause-looked g c = looked_ok g.D.Disk.meaning c.args.store.now c.loop-position.store tt _ c.loop-position.invariant.looked

pub returns-clause-says : goal.returns-clause-says
returns-clause-says g c = λ R o k. let m = c.loop-position-test.false in all_below c.args.ground.now R o c.args.dba.now c.loop-position.position c.args.place (omega (arith, m)) (c.loop-position.invariant.holds R o k)

pub loop-position-preserved : goal.loop-position-preserved
loop-position-preserved g c = passed_more g.D.Disk.meaning c.args.store.now c.loop-position.store c.is_there.new.store c.args.ground.now (NoneBelow c.args.ground.now c.args.dba.now c.loop-position.position) (NoneBelow c.args.ground.now c.args.dba.now (c.loop-position.position + 1)) c.in-Ok-false.field-0 c.loop-position.invariant c.in-Ok-false.ensures.looked
    (λ R o k h. none_below c.args.ground.now c.args.dba.now c.loop-position.position c.in-Ok-false.field-0 R o c.in-Ok-false.field-0-test (c.in-Ok-false.ensures.says R o k) h)
