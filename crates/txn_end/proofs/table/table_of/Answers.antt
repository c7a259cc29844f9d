use Rattle.std.proofs.Common.{ℕ, Bool, true, false, Ok, Err, subst}
use Rattle.store_core.specs.Causes.{HasLooked}
use Rattle.txn_end.specs.Owning.{Owns}
use Rattle.store_core.proofs.Lookups.{looked_on, looked_ok, looked_err}
use Rattle.txn_end.proofs.Gathering.{sought_next, sought_found, sought_all}
use Rattle.txn_end.proofs.table.table_of.Goals as goal

pub returns-in-Err-clause-looked : goal.returns-in-Err-clause-looked
returns-in-Err-clause-looked g c = looked_on g.D.Disk.meaning c.args.store.now c.loop-number.store c.owns.new.store tt (Err c.in-Err.fault) c.loop-number.invariant.looked (looked_err g.D.Disk.meaning c.loop-number.store c.owns.new.store c.in-Err.fault c.in-Err.ensures.looked)

pub returns-in-Ok-true-clause-looked : goal.returns-in-Ok-true-clause-looked
returns-in-Ok-true-clause-looked g c = looked_ok g.D.Disk.meaning c.args.store.now c.owns.new.store c.in-Ok-true.field-0 _ (looked_on g.D.Disk.meaning c.args.store.now c.loop-number.store c.owns.new.store tt (Ok c.in-Ok-true.field-0) c.loop-number.invariant.looked c.in-Ok-true.ensures.looked)

pub returns-in-Ok-true-clause-says : goal.returns-in-Ok-true-clause-says
returns-in-Ok-true-clause-says g c = λ R o t i has. sought_found g.D.Disk.meaning c.args.store.now c.loop-number.store c.args.extent c.loop-number.number R o c.loop-number.invariant (λ Q q. subst (Owns Q c.loop-number.number c.args.extent) c.in-Ok-true.field-0-test (c.in-Ok-true.ensures.says Q q)) t i has

pub loop-number-preserved : goal.loop-number-preserved
loop-number-preserved g c = sought_next g.D.Disk.meaning c.args.store.now c.loop-number.store c.owns.new.store c.args.extent c.loop-number.number c.loop-number.invariant (subst (λ (b : Bool). HasLooked g.D.Disk.meaning c.loop-number.store c.owns.new.store (Ok b)) c.in-Ok-false.field-0-test c.in-Ok-false.ensures.looked) (λ Q q. subst (Owns Q c.loop-number.number c.args.extent) c.in-Ok-false.field-0-test (c.in-Ok-false.ensures.says Q q))

pub returns-clause-looked : goal.returns-clause-looked
returns-clause-looked g c = looked_on g.D.Disk.meaning c.args.store.now c.loop-number.store c.refuse.new.self tt (Err c.refuse.result) c.loop-number.invariant.looked (looked_err g.D.Disk.meaning c.loop-number.store c.refuse.new.self c.refuse.result c.refuse.ensures.looked)

pub returns-clause-sound : goal.returns-clause-sound
returns-clause-sound g c = λ R o t i has. sought_all g.D.Disk.meaning c.args.store.now c.loop-number.store c.args.extent c.loop-number.number R o c.loop-number-test.false c.loop-number.invariant t i has
