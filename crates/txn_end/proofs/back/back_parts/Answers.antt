use Rattle.std.proofs.Common.{Ok}
use Rattle.redo_model.specs.Records.{BackPart}
use Rattle.store_core.proofs.Lookups.{looked_on, looked_memory}
use Rattle.txn_end.proofs.Gathering.{gathered_next, gathered_fails, gathered_sound}
use Rattle.txn_end.proofs.back.back_parts.Goals as goal

pub returns-in-Err-clause-looked : goal.returns-in-Err-clause-looked
returns-in-Err-clause-looked g c = gathered_fails g.D.Disk.meaning c.args.store.now c.loop-i.store c.back_part.new.store c.args.txn c.args.at c.args.count c.loop-i.i c.loop-i.parts c.in-Err.fault c.loop-i.invariant c.in-Err.ensures.looked

pub returns-in-Err-clause-sound : goal.returns-in-Err-clause-sound
returns-in-Err-clause-sound g c = λ R st t told u l. gathered_sound g.D.Disk.meaning c.args.store.now c.loop-i.store c.args.txn c.args.at c.args.count c.loop-i.i c.loop-i.parts c.in-Err.fault R st c.loop-i-test.true c.loop-i.invariant (λ Q s p q k e i n. c.in-Err.ensures.sound Q s p q k e i n) t told u l

pub returns-in-Err-push-clause-looked : goal.returns-in-Err-push-clause-looked
returns-in-Err-push-clause-looked g c = looked_memory {A = BackPart} g.D.Disk.meaning c.args.store.now c.back_part.new.store c.in-Ok.part (looked_on g.D.Disk.meaning c.args.store.now c.loop-i.store c.back_part.new.store tt (Ok c.in-Ok.part) c.loop-i.invariant.looked c.in-Ok.ensures.looked)

pub loop-i-preserved : goal.loop-i-preserved
loop-i-preserved g c = gathered_next g.D.Disk.meaning c.args.store.now c.loop-i.store c.back_part.new.store c.args.txn c.args.at c.args.count c.loop-i.i c.loop-i.parts c.push.new.self c.in-Ok.part c.loop-i-test.true c.loop-i.invariant c.in-Ok.ensures.looked (λ R st p t told u e. c.in-Ok.ensures.says R st p t told u e) c.in-Ok-push.ensures.ok
