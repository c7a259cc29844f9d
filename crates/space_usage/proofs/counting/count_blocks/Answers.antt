use Rattle.std.proofs.Common.{◌+◌, Err, refl}
use Rattle.store_core.proofs.Lookups.{looked_on, looked_ok, looked_err}
use Rattle.space_usage.specs.declared.walking.Coded.{Coded}
use Rattle.space_usage.proofs.Walks.{usage_begun, usage_step, usage_all, walk_fails, walk_stops}
use Rattle.space_usage.proofs.counting.count_blocks.Goals as goal

pub loop-init : goal.loop-init
loop-init g c = usage_begun g.D.Disk.meaning c.args.store.now c.args.shape.now c.args.segment.now c.place_at-place.result c.none_of-usage.result c.requires.unspent c.place_at-place.ensures c.none_of-usage.ensures

pub returns-in-None-clause-looked : goal.returns-in-None-clause-looked
returns-in-None-clause-looked g c = looked_on g.D.Disk.meaning c.args.store.now c.loop.store c.refuse.new.self tt (Err c.refuse.result) c.loop.invariant.0.looked (looked_err {A = Unit {0}} g.D.Disk.meaning c.loop.store c.refuse.new.self c.refuse.result c.refuse.ensures.looked)

pub returns-in-None-clause-sound : goal.returns-in-None-clause-sound
returns-in-None-clause-sound g c = λ R o k. absurd (walk_stops g.D.Disk.meaning R o c.loop.counter c.args.store.now c.args.shape.now c.args.segment.now c.loop.place k c.loop-test.true c.in-None.is c.loop.invariant.0.place_is)

pub returns-in-Err-clause-looked : goal.returns-in-Err-clause-looked
returns-in-Err-clause-looked g c = looked_on g.D.Disk.meaning c.args.store.now c.loop.store c.coded_at.new.store tt (Err c.in-Err.fault) c.loop.invariant.0.looked (looked_err {A = Coded} g.D.Disk.meaning c.loop.store c.coded_at.new.store c.in-Err.fault c.in-Err.ensures.looked)

pub returns-in-Err-clause-sound : goal.returns-in-Err-clause-sound
returns-in-Err-clause-sound g c = λ R o k. walk_fails g.D.Disk.meaning c.args.store.now c.loop.store c.args.shape.now c.args.segment.now c.loop.counter c.loop.place c.in-Some.at c.in-Err.fault _ c.loop.invariant.0 c.in-Some.is (λ Q q i z w n. c.in-Err.ensures.sound Q q i z w n) R o k

pub loop-preserved : goal.loop-preserved
loop-preserved g c = usage_step g.D.Disk.meaning c.args.store.now c.loop.store c.coded_at.new.store c.args.shape.now c.args.segment.now c.loop.counter (c.loop.counter + 1) c.loop.place c.next-place.result c.in-Some.at c.in-Ok.block c.loop.usage c.with_code-usage.result c.loop.invariant c.loop-test.true c.in-Some.is refl c.in-Ok.ensures.looked
    (λ Q q i z w. c.in-Ok.ensures.says Q q i z w) c.with_code-usage.ensures (λ i w. c.next-place.ensures i w)

pub returns-clause-looked : goal.returns-clause-looked
returns-clause-looked g c = looked_ok g.D.Disk.meaning c.args.store.now c.loop.store tt c.loop.usage c.loop.invariant.0.looked

pub returns-clause-says : goal.returns-clause-says
returns-clause-says g c = λ R o k. usage_all g.D.Disk.meaning c.args.store.now c.loop.store c.args.shape.now c.args.segment.now c.loop.counter c.loop.place c.loop.usage c.loop.invariant c.loop-test.false R o k
