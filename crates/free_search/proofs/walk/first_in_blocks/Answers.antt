use Rattle.std.proofs.Common.{ℕ, Ok, Err, Option, Some, ◌∙◌, sym, subst}
use Rattle.store_core.specs.Causes.{HasLooked}
use Rattle.store_core.proofs.Lookups.{looked_on, looked_ok, looked_err}
use Rattle.free_search.proofs.Walking.{tried_none, tried_next, tried_found, tried_fails, tried_all}
use Rattle.free_search.proofs.walk.first_in_blocks.Goals as goal

pub loop-nth-init : goal.loop-nth-init
loop-nth-init g c = tried_none g.D.Disk.meaning c.args.store.now c.args.look.now c.args.wanted.now c.args.first c.args.from c.args.to c.requires.unspent

pub returns-in-Err-clause-looked : goal.returns-in-Err-clause-looked
returns-in-Err-clause-looked g c = looked_on g.D.Disk.meaning c.args.store.now c.loop-nth.store c.block_at.new.store tt (Err c.in-Err.fault) c.loop-nth.invariant.looked (looked_err g.D.Disk.meaning c.loop-nth.store c.block_at.new.store c.in-Err.fault c.in-Err.ensures.looked)

pub returns-in-Err-clause-sound : goal.returns-in-Err-clause-sound
returns-in-Err-clause-sound g c = λ R index e t k f head most. tried_fails g.D.Disk.meaning c.args.store.now c.loop-nth.store c.args.look.now c.args.wanted.now c.args.first c.args.from c.args.to c.loop-nth.nth c.in-Err.fault R index e c.loop-nth-test.true c.loop-nth.invariant (λ Q i x q z y m v n. c.in-Err.ensures.sound Q i x q z y m v n) t k f head most

pub returns-in-Ok-Some-clause-looked : goal.returns-in-Ok-Some-clause-looked
returns-in-Ok-Some-clause-looked g c = looked_on g.D.Disk.meaning c.args.store.now c.loop-nth.store c.block_at.new.store tt (Ok (Some c.in-Ok-Some.dba)) c.loop-nth.invariant.looked (subst (λ (o : Option ℕ). HasLooked g.D.Disk.meaning c.loop-nth.store c.block_at.new.store (Ok o)) c.in-Ok-Some.field-0-is c.in-Ok-Some.ensures.looked)

pub returns-in-Ok-Some-clause-says : goal.returns-in-Ok-Some-clause-says
returns-in-Ok-Some-clause-says g c = λ R index e t k f head most. tried_found g.D.Disk.meaning c.args.store.now c.loop-nth.store c.args.look.now c.args.wanted.now c.args.first c.args.from c.args.to c.loop-nth.nth c.in-Ok-Some.dba R index e c.loop-nth-test.true c.loop-nth.invariant (λ Q i x q z y m v. sym c.in-Ok-Some.field-0-is ∙ c.in-Ok-Some.ensures.says Q i x q z y m v) t k f head most

pub loop-nth-preserved : goal.loop-nth-preserved
loop-nth-preserved g c = tried_next g.D.Disk.meaning c.args.store.now c.loop-nth.store c.block_at.new.store c.args.look.now c.args.wanted.now c.args.first c.args.from c.args.to c.loop-nth.nth c.loop-nth-test.true c.loop-nth.invariant (subst (λ (o : Option ℕ). HasLooked g.D.Disk.meaning c.loop-nth.store c.block_at.new.store (Ok o)) c.in-Ok-None.field-0-is c.in-Ok-None.ensures.looked) (λ Q i x q z y m v. sym c.in-Ok-None.field-0-is ∙ c.in-Ok-None.ensures.says Q i x q z y m v)

pub returns-clause-looked : goal.returns-clause-looked
returns-clause-looked g c = looked_ok g.D.Disk.meaning c.args.store.now c.loop-nth.store tt _ c.loop-nth.invariant.looked

pub returns-clause-says : goal.returns-clause-says
returns-clause-says g c = λ R index e t k f head most. tried_all g.D.Disk.meaning c.args.store.now c.loop-nth.store c.args.look.now c.args.wanted.now c.args.first c.args.from c.args.to c.loop-nth.nth R index e c.loop-nth-test.false c.loop-nth.invariant t k f head most
