use Rattle.std.proofs.Common.{Ok, Err}
use Rattle.store_core.proofs.Lookups.{looked_on, looked_ok}
use Rattle.shrink_move.proofs.Coming.{descends_none, descends_more, descends_found, descends_all, descends_fails}
use Rattle.shrink_move.proofs.come.come_down.Goals as goal

pub loop-passed-init : goal.loop-passed-init
loop-passed-init g c = descends_none g.D.Disk.meaning c.args.store.now c.args.ground.now c.args.skips.now c.args.cursor c.requires.unspent

pub returns-in-Err-clause-looked : goal.returns-in-Err-clause-looked
returns-in-Err-clause-looked g c = looked_on g.D.Disk.meaning c.args.store.now c.loop-passed.store c.come_at.new.store tt (Err c.in-Err.fault) c.loop-passed.invariant.looked c.in-Err.ensures.looked

pub returns-in-Err-clause-sound : goal.returns-in-Err-clause-sound
returns-in-Err-clause-sound g c = λ R o k l. descends_fails g.D.Disk.meaning c.args.store.now c.loop-passed.store R o c.args.ground.now c.args.skips.now c.args.cursor c.loop-passed.passed c.in-Err.fault c.loop-passed.invariant l (λ Q q w m u. c.in-Err.ensures.sound Q q w m u) k

pub returns-in-Ok-Some-clause-looked : goal.returns-in-Ok-Some-clause-looked
returns-in-Ok-Some-clause-looked g c = looked_ok g.D.Disk.meaning c.args.store.now c.come_at.new.store c.in-Ok-Some.field-0 _ (looked_on g.D.Disk.meaning c.args.store.now c.loop-passed.store c.come_at.new.store tt (Ok c.in-Ok-Some.field-0) c.loop-passed.invariant.looked c.in-Ok-Some.ensures.looked)

pub returns-in-Ok-Some-clause-says : goal.returns-in-Ok-Some-clause-says
returns-in-Ok-Some-clause-says g c = λ R o k. descends_found g.D.Disk.meaning c.args.store.now c.loop-passed.store R o c.args.ground.now c.args.skips.now c.args.cursor c.loop-passed.passed c.in-Ok-Some.field-0 c.in-Ok-Some.come c.loop-passed.invariant c.loop-passed-test.true c.in-Ok-Some.field-0-is (λ Q q w. c.in-Ok-Some.ensures.says Q q w) k

pub returns-clause-looked : goal.returns-clause-looked
returns-clause-looked g c = looked_ok g.D.Disk.meaning c.args.store.now c.loop-passed.store tt _ c.loop-passed.invariant.looked

pub returns-clause-says : goal.returns-clause-says
returns-clause-says g c = λ R o k. descends_all g.D.Disk.meaning c.args.store.now c.loop-passed.store R o c.args.ground.now c.args.skips.now c.args.cursor c.loop-passed.passed c.loop-passed.invariant c.loop-passed-test.false k

pub loop-passed-preserved : goal.loop-passed-preserved
loop-passed-preserved g c = descends_more g.D.Disk.meaning c.args.store.now c.loop-passed.store c.come_at.new.store c.args.ground.now c.args.skips.now c.args.cursor c.loop-passed.passed c.in-Ok-None.field-0 c.loop-passed.invariant c.loop-passed-test.true c.in-Ok-None.ensures.looked c.in-Ok-None.field-0-is (λ Q q w. c.in-Ok-None.ensures.says Q q w)
