use Rattle.std.proofs.Common.{◌+◌, ◌≡◌, Ok, Err, arith, refl}
use Rattle.store_core.proofs.Lookups.{looked_on, looked_ok}
use Rattle.shrink_move.proofs.Takers.{NoneTakes, passed_same, passed_more, passed_known, passed_unspent, none_takes, one_takes, all_taken}
use Rattle.shrink_move.proofs.taking.taker_below.Goals as goal

pub loop-position-init : goal.loop-position-init
loop-position-init g c = passed_same g.D.Disk.meaning c.args.store.now c.args.ground.now (NoneTakes c.args.ground.now c.args.len 0) c.requires.unspent (λ R o. refl)

pub returns-in-Err-clause-looked : goal.returns-in-Err-clause-looked
returns-in-Err-clause-looked g c = looked_on g.D.Disk.meaning c.args.store.now c.loop-position.store c.taker_at.new.store tt (Err c.in-Err.fault) c.loop-position.invariant.looked c.in-Err.ensures.looked

pub returns-in-Err-clause-sound : goal.returns-in-Err-clause-sound
returns-in-Err-clause-sound g c = λ R o k l.
    let P = NoneTakes c.args.ground.now c.args.len c.loop-position.position in
    let m = c.loop-position-test.true in
    c.in-Err.ensures.sound R o (passed_known g.D.Disk.meaning c.args.store.now c.loop-position.store R o c.args.ground.now P c.loop-position.invariant k) (omega (arith, l, m)) (passed_unspent g.D.Disk.meaning c.args.store.now c.loop-position.store c.args.ground.now P c.loop-position.invariant)

pub returns-in-Ok-Some-clause-looked : goal.returns-in-Ok-Some-clause-looked
returns-in-Ok-Some-clause-looked g c = looked_ok g.D.Disk.meaning c.args.store.now c.taker_at.new.store c.in-Ok-Some.field-0 _ (looked_on g.D.Disk.meaning c.args.store.now c.loop-position.store c.taker_at.new.store tt (Ok c.in-Ok-Some.field-0) c.loop-position.invariant.looked c.in-Ok-Some.ensures.looked)

pub returns-in-Ok-Some-clause-says : goal.returns-in-Ok-Some-clause-says
returns-in-Ok-Some-clause-says g c = λ R o k. one_takes c.args.ground.now c.args.len c.loop-position.position c.args.place c.in-Ok-Some.dba c.in-Ok-Some.field-0 R o c.in-Ok-Some.field-0-is c.loop-position-test.true
    (c.in-Ok-Some.ensures.says R o (passed_known g.D.Disk.meaning c.args.store.now c.loop-position.store R o c.args.ground.now (NoneTakes c.args.ground.now c.args.len c.loop-position.position) c.loop-position.invariant k)) (c.loop-position.invariant.holds R o k)

pub returns-clause-looked : goal.returns-clause-looked
returns-clause-looked g c = looked_ok g.D.Disk.meaning c.args.store.now c.loop-position.store tt _ c.loop-position.invariant.looked

pub returns-clause-says : goal.returns-clause-says
returns-clause-says g c = λ R o k. all_taken c.args.ground.now c.args.len c.loop-position.position c.args.place R o (let m = c.loop-position-test.false in let n = c.loop-position.auto in let e : c.loop-position.position ≡ c.args.place = omega (arith, m) in e) (c.loop-position.invariant.holds R o k)

pub loop-position-preserved : goal.loop-position-preserved
loop-position-preserved g c = passed_more g.D.Disk.meaning c.args.store.now c.loop-position.store c.taker_at.new.store c.args.ground.now (NoneTakes c.args.ground.now c.args.len c.loop-position.position) (NoneTakes c.args.ground.now c.args.len (c.loop-position.position + 1)) c.in-Ok-None.field-0 c.loop-position.invariant c.in-Ok-None.ensures.looked
    (λ R o k h. none_takes c.args.ground.now c.args.len c.loop-position.position c.in-Ok-None.field-0 R o c.in-Ok-None.field-0-is (c.in-Ok-None.ensures.says R o k) h)
