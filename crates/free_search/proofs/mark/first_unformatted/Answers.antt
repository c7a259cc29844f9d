use Rattle.std.proofs.Common.{ℕ, Ok, Err, Option, Some, subst}
use Rattle.store_core.specs.Causes.{HasLooked}
use Rattle.store_core.proofs.Lookups.{looked_on, looked_ok, looked_err}
use Rattle.free_search.specs.Walks.{IsAtPosition}
use Rattle.free_search.proofs.Marks.{from_low, from_next, from_found, from_fails, from_end}
use Rattle.free_search.proofs.mark.first_unformatted.Goals as goal

pub loop-position-init : goal.loop-position-init
loop-position-init g c = from_low g.D.Disk.meaning c.args.store.now c.args.shape.now c.args.segment.now c.requires.unspent

pub returns-in-Err-clause-looked : goal.returns-in-Err-clause-looked
returns-in-Err-clause-looked g c = looked_on g.D.Disk.meaning c.args.store.now c.loop-position.store c.unformatted_at.new.store tt (Err c.in-Err.fault) c.loop-position.invariant.looked (looked_err g.D.Disk.meaning c.loop-position.store c.unformatted_at.new.store c.in-Err.fault c.in-Err.ensures.looked)

pub returns-in-Err-clause-sound : goal.returns-in-Err-clause-sound
returns-in-Err-clause-sound g c = λ R t h. from_fails g.D.Disk.meaning c.args.store.now c.loop-position.store c.args.shape.now c.args.segment.now c.loop-position.position c.in-Err.fault R c.loop-position-test.true c.loop-position.invariant (λ Q q z l n. c.in-Err.ensures.sound Q q z l n) t h

pub returns-in-Ok-Some-clause-looked : goal.returns-in-Ok-Some-clause-looked
returns-in-Ok-Some-clause-looked g c = looked_on g.D.Disk.meaning c.args.store.now c.loop-position.store c.unformatted_at.new.store tt (Ok (Some c.in-Ok-Some.dba)) c.loop-position.invariant.looked (subst (λ (o : Option ℕ). HasLooked g.D.Disk.meaning c.loop-position.store c.unformatted_at.new.store (Ok o)) c.in-Ok-Some.field-0-is c.in-Ok-Some.ensures.looked)

pub returns-in-Ok-Some-clause-says : goal.returns-in-Ok-Some-clause-says
returns-in-Ok-Some-clause-says g c = λ R t h. from_found g.D.Disk.meaning c.args.store.now c.loop-position.store c.args.shape.now c.args.segment.now c.loop-position.position c.in-Ok-Some.dba R c.loop-position-test.true c.loop-position.invariant (λ Q q z l. subst (λ (o : Option ℕ). IsAtPosition c.args.shape.now Q c.args.segment.now.obj c.loop-position.position o) c.in-Ok-Some.field-0-is (c.in-Ok-Some.ensures.says Q q z l)) t h

pub loop-position-preserved : goal.loop-position-preserved
loop-position-preserved g c = from_next g.D.Disk.meaning c.args.store.now c.loop-position.store c.unformatted_at.new.store c.args.shape.now c.args.segment.now c.loop-position.position c.loop-position-test.true c.loop-position.invariant (subst (λ (o : Option ℕ). HasLooked g.D.Disk.meaning c.loop-position.store c.unformatted_at.new.store (Ok o)) c.in-Ok-None.field-0-is c.in-Ok-None.ensures.looked) (λ Q q z l. subst (λ (o : Option ℕ). IsAtPosition c.args.shape.now Q c.args.segment.now.obj c.loop-position.position o) c.in-Ok-None.field-0-is (c.in-Ok-None.ensures.says Q q z l))

pub returns-clause-looked : goal.returns-clause-looked
returns-clause-looked g c = looked_ok g.D.Disk.meaning c.args.store.now c.loop-position.store tt _ c.loop-position.invariant.looked

pub returns-clause-says : goal.returns-clause-says
returns-clause-says g c = λ R t h. from_end g.D.Disk.meaning c.args.store.now c.loop-position.store c.args.shape.now c.args.segment.now c.loop-position.position R c.loop-position-test.false c.loop-position.invariant t h
