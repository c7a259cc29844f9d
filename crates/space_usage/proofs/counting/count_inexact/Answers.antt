use Rattle.std.proofs.Common.{◌+◌, Err, Bool, refl, ap}
use Rattle.store_core.proofs.Lookups.{looked_on, looked_ok, looked_err}
use Rattle.space_usage.specs.declared.walking.Coded.{Coded}
use Rattle.space_usage.proofs.Walks.{inexact_begun, inexact_step, inexact_all, inexact_fails, walk_fails, walk_stops}
use Rattle.space_usage.proofs.counting.count_inexact.Goals as goal

pub loop-init : goal.loop-init
loop-init g c = inexact_begun g.D.Disk.meaning c.args.store.now c.args.shape.now c.args.segment.now c.args.table.now c.place_at-place.result c.requires.unspent c.place_at-place.ensures

pub returns-in-None-clause-looked : goal.returns-in-None-clause-looked
returns-in-None-clause-looked g c = looked_on g.D.Disk.meaning c.args.store.now c.loop.store c.refuse.new.self tt (Err c.refuse.result) c.loop.invariant.0.looked (looked_err {A = Unit {0}} g.D.Disk.meaning c.loop.store c.refuse.new.self c.refuse.result c.refuse.ensures.looked)

pub returns-in-None-clause-sound : goal.returns-in-None-clause-sound
returns-in-None-clause-sound g c = λ R o k h. absurd (walk_stops g.D.Disk.meaning R o c.loop.counter c.args.store.now c.args.shape.now c.args.segment.now c.loop.place k c.loop-test.true c.in-None.is c.loop.invariant.0.place_is)

pub returns-in-Err-clause-looked : goal.returns-in-Err-clause-looked
returns-in-Err-clause-looked g c = looked_on g.D.Disk.meaning c.args.store.now c.loop.store c.coded_at.new.store tt (Err c.in-Err.fault) c.loop.invariant.0.looked (looked_err {A = Coded} g.D.Disk.meaning c.loop.store c.coded_at.new.store c.in-Err.fault c.in-Err.ensures.looked)

pub returns-in-Err-clause-sound : goal.returns-in-Err-clause-sound
returns-in-Err-clause-sound g c = λ R o k h. walk_fails g.D.Disk.meaning c.args.store.now c.loop.store c.args.shape.now c.args.segment.now c.loop.counter c.loop.place c.in-Some.at c.in-Err.fault _ c.loop.invariant.0 c.in-Some.is (λ Q q i z w n. c.in-Err.ensures.sound Q q i z w n) R o k

pub returns-in-Err-is_inexact-clause-looked : goal.returns-in-Err-is_inexact-clause-looked
returns-in-Err-is_inexact-clause-looked g c = looked_on g.D.Disk.meaning c.args.store.now c.loop.store c.is_inexact.new.store tt (Err c.in-Err-is_inexact.fault) c.loop.invariant.0.looked (looked_on g.D.Disk.meaning c.loop.store c.coded_at.new.store c.is_inexact.new.store c.in-Ok.block (Err c.in-Err-is_inexact.fault) c.in-Ok.ensures.looked (looked_err {A = Bool} g.D.Disk.meaning c.coded_at.new.store c.is_inexact.new.store c.in-Err-is_inexact.fault c.in-Err-is_inexact.ensures.looked))

pub returns-in-Err-is_inexact-clause-sound : goal.returns-in-Err-is_inexact-clause-sound
returns-in-Err-is_inexact-clause-sound g c = λ R o k h. inexact_fails g.D.Disk.meaning c.args.store.now c.loop.store c.coded_at.new.store c.args.shape.now c.args.segment.now c.args.table.now c.loop.counter c.loop.place c.in-Some.at c.in-Ok.block c.in-Err-is_inexact.fault _ c.loop.invariant.0 c.loop-test.true c.in-Some.is c.in-Ok.ensures.looked
    (λ Q q i z w. c.in-Ok.ensures.says Q q i z w) (λ Q q i z t l w. c.in-Err-is_inexact.ensures.sound Q q i z t l w) R o k h

pub loop-preserved : goal.loop-preserved
loop-preserved g c = inexact_step g.D.Disk.meaning c.args.store.now c.loop.store c.coded_at.new.store c.is_inexact.new.store c.args.shape.now c.args.segment.now c.args.table.now c.loop.counter (c.loop.counter + 1) c.loop.place c.next-place.result c.in-Some.at c.in-Ok.block c.in-Ok-is_inexact.inexact c.loop.count _ c.loop.invariant c.loop-test.true c.in-Some.is refl c.in-Ok.ensures.looked c.in-Ok-is_inexact.ensures.looked
    (λ Q q i z w. c.in-Ok.ensures.says Q q i z w) (λ Q q i z t l w. c.in-Ok-is_inexact.ensures.says Q q i z t l w) (ap (λ n. c.loop.count + n) c.one_if-count.ensures.value) (λ i w. c.next-place.ensures i w)

pub returns-clause-looked : goal.returns-clause-looked
returns-clause-looked g c = looked_ok g.D.Disk.meaning c.args.store.now c.loop.store tt c.loop.count c.loop.invariant.0.looked

pub returns-clause-says : goal.returns-clause-says
returns-clause-says g c = λ R o k h. inexact_all g.D.Disk.meaning c.args.store.now c.loop.store c.args.shape.now c.args.segment.now c.args.table.now c.loop.counter c.loop.place c.loop.count c.loop.invariant c.loop-test.false R o k h

pub is_inexact-requires-clause-unspent : goal.is_inexact-requires-clause-unspent
is_inexact-requires-clause-unspent g c = c.in-Ok.ensures.looked.cause.kept c.in-Ok.ensures.looked.cause.goes_on
