use Rattle.std.proofs.Common.{Ok, Err}
use Rattle.store_core.proofs.Lookups.{looked_on, looked_ok}
use Rattle.lowering.proofs.Freeing.{freed_none, freed_more, freed_found, freed_fails, freed_all}
use Rattle.lowering.proofs.extent.are_free.Goals as goal

pub loop-nth-init : goal.loop-nth-init
loop-nth-init g c = freed_none g.D.Disk.meaning c.args.store.now c.args.ground.now c.args.first c.args.from c.args.to c.requires.unspent

pub returns-in-Err-clause-looked : goal.returns-in-Err-clause-looked
returns-in-Err-clause-looked g c = looked_on g.D.Disk.meaning c.args.store.now c.loop-nth.store c.is_free_at.new.store tt (Err c.in-Err.fault) c.loop-nth.invariant.looked c.in-Err.ensures.looked

pub returns-in-Err-clause-sound : goal.returns-in-Err-clause-sound
returns-in-Err-clause-sound g c = λ R o index e k b d. freed_fails g.D.Disk.meaning c.args.store.now c.loop-nth.store R o index e c.args.ground.now c.args.first c.args.from c.args.to c.loop-nth.nth c.in-Err.fault c.loop-nth-test.true c.loop-nth.invariant (λ Q p i x q y z u. c.in-Err.ensures.sound Q p i x q y z u) k b d

pub returns-in-Ok-false-clause-looked : goal.returns-in-Ok-false-clause-looked
returns-in-Ok-false-clause-looked g c = looked_ok g.D.Disk.meaning c.args.store.now c.is_free_at.new.store c.in-Ok-false.field-0 _ (looked_on g.D.Disk.meaning c.args.store.now c.loop-nth.store c.is_free_at.new.store tt (Ok c.in-Ok-false.field-0) c.loop-nth.invariant.looked c.in-Ok-false.ensures.looked)

pub returns-in-Ok-false-clause-says : goal.returns-in-Ok-false-clause-says
returns-in-Ok-false-clause-says g c = λ R o index e k b d. freed_found g.D.Disk.meaning c.args.store.now c.loop-nth.store R o index e c.args.ground.now c.args.first c.args.from c.args.to c.loop-nth.nth c.in-Ok-false.field-0 c.loop-nth-test.true c.loop-nth.invariant c.in-Ok-false.field-0-test (λ Q p i x q y z. c.in-Ok-false.ensures.says Q p i x q y z) k b d

pub returns-clause-looked : goal.returns-clause-looked
returns-clause-looked g c = looked_ok g.D.Disk.meaning c.args.store.now c.loop-nth.store tt _ c.loop-nth.invariant.looked

pub returns-clause-says : goal.returns-clause-says
returns-clause-says g c = λ R o index e k b d. freed_all g.D.Disk.meaning c.args.store.now c.loop-nth.store R o index e c.args.ground.now c.args.first c.args.from c.args.to c.loop-nth.nth c.loop-nth-test.false c.loop-nth.invariant k b d

pub loop-nth-preserved : goal.loop-nth-preserved
loop-nth-preserved g c = freed_more g.D.Disk.meaning c.args.store.now c.loop-nth.store c.is_free_at.new.store c.args.ground.now c.args.first c.args.from c.args.to c.loop-nth.nth c.in-Ok-true.field-0 c.loop-nth-test.true c.loop-nth.invariant c.in-Ok-true.ensures.looked c.in-Ok-true.field-0-test (λ Q p i x q y z. c.in-Ok-true.ensures.says Q p i x q y z)
