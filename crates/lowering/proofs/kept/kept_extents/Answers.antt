use Rattle.std.proofs.Common.{Bool, Ok, Err}
use Rattle.store_core.proofs.Lookups.{looked_on, looked_ok, looked_err}
use Rattle.lowering.proofs.Counting.{passed_none, passed_more, passed_found, passed_fails, passed_all}
use Rattle.lowering.proofs.kept.kept_extents.Goals as goal

pub loop-passed-init : goal.loop-passed-init
loop-passed-init g c = passed_none g.D.Disk.meaning c.args.store.now c.args.ground.now c.requires.unspent

pub returns-in-Err-clause-looked : goal.returns-in-Err-clause-looked
returns-in-Err-clause-looked g c = looked_on g.D.Disk.meaning c.args.store.now c.loop-passed.store c.is_vacant.new.store tt (Err c.in-Err.fault) c.loop-passed.invariant.looked (looked_err {A = Bool} g.D.Disk.meaning c.loop-passed.store c.is_vacant.new.store c.in-Err.fault c.in-Err.ensures.looked)

pub returns-in-Err-clause-sound : goal.returns-in-Err-clause-sound
returns-in-Err-clause-sound g c = λ R o k. passed_fails g.D.Disk.meaning c.args.store.now c.loop-passed.store R o c.args.ground.now c.loop-passed.passed c.in-Err.fault c.loop-passed-test.true c.loop-passed.invariant (λ Q p q l u. c.in-Err.ensures.sound Q p q l u) k

pub returns-in-Ok-false-clause-looked : goal.returns-in-Ok-false-clause-looked
returns-in-Ok-false-clause-looked g c = looked_ok g.D.Disk.meaning c.args.store.now c.is_vacant.new.store c.in-Ok-false.field-0 _ (looked_on g.D.Disk.meaning c.args.store.now c.loop-passed.store c.is_vacant.new.store tt (Ok c.in-Ok-false.field-0) c.loop-passed.invariant.looked c.in-Ok-false.ensures.looked)

pub returns-in-Ok-false-clause-says : goal.returns-in-Ok-false-clause-says
returns-in-Ok-false-clause-says g c = λ R o k. passed_found g.D.Disk.meaning c.args.store.now c.loop-passed.store R o c.args.ground.now c.loop-passed.passed c.in-Ok-false.field-0 c.loop-passed-test.true c.loop-passed.invariant c.in-Ok-false.field-0-test (λ Q p e q at. c.in-Ok-false.ensures.says Q p e q at) k

pub returns-clause-looked : goal.returns-clause-looked
returns-clause-looked g c = looked_ok g.D.Disk.meaning c.args.store.now c.loop-passed.store tt _ c.loop-passed.invariant.looked

pub returns-clause-says : goal.returns-clause-says
returns-clause-says g c = λ R o k. passed_all g.D.Disk.meaning c.args.store.now c.loop-passed.store R o c.args.ground.now c.loop-passed.passed c.loop-passed-test.false c.loop-passed.invariant k

pub loop-passed-preserved : goal.loop-passed-preserved
loop-passed-preserved g c = passed_more g.D.Disk.meaning c.args.store.now c.loop-passed.store c.is_vacant.new.store c.args.ground.now c.loop-passed.passed c.in-Ok-true.field-0 c.loop-passed-test.true c.loop-passed.invariant c.in-Ok-true.ensures.looked c.in-Ok-true.field-0-test (λ Q p e q at. c.in-Ok-true.ensures.says Q p e q at)
