use Rattle.std.proofs.Common.{ℕ, List, Option, Ok, ◌∙◌, sym, subst}
use Rattle.end_laws.specs.Types.{backed}
use Rattle.store_core.specs.Causes.{HasCause}
use Rattle.store_core.specs.Adding.{Adds}
use Rattle.recovery.proofs.Loops.{back_first, back_none, back_refused, back_next, back_all}
use Rattle.recovery.proofs.closing.take_back_all.Goals as goal

pub loop-init : goal.loop-init
loop-init g c = back_first g.D.Disk.meaning c.args.txn c.args.store.now c.requires.unspent

pub returns-in-Ok-None-clause-comes : goal.returns-in-Ok-None-clause-comes
returns-in-Ok-None-clause-comes g c = λ R h f. back_none g.D.Disk.meaning c.args.txn c.loop.counter c.args.store.now c.loop.store c.back_step.new.store c.loop.invariant c.back_step.ensures.loan
    (subst (λ (o : Option (List ℕ)). HasCause g.D.Disk.meaning c.loop.store c.back_step.new.store (Ok o)) c.in-Ok-None.field-0-is c.in-Ok-None.ensures.cause)
    (λ Q q on. subst (λ (o : Option (List ℕ)). Adds g.D.Disk.meaning Q (backed Q c.args.txn) c.loop.store c.back_step.new.store (Ok o)) c.in-Ok-None.field-0-is (c.in-Ok-None.ensures.makes Q q on))
    (λ Q q on. sym c.in-Ok-None.field-0-is ∙ c.in-Ok-None.ensures.answer Q q on) R h f

pub returns-in-Err-clause-comes : goal.returns-in-Err-clause-comes
returns-in-Err-clause-comes g c = λ R h f. back_refused g.D.Disk.meaning c.args.txn c.loop.counter c.args.store.now c.loop.store c.back_step.new.store c.in-Err.fault c.loop.invariant c.in-Err.ensures.loan (λ Q q on. c.in-Err.ensures.makes Q q on) R h f

pub loop-preserved : goal.loop-preserved
loop-preserved g c = back_next g.D.Disk.meaning c.args.txn c.loop.counter c.args.store.now c.loop.store c.back_step.new.store c.in-Ok-Some.field-0-0 c.loop.invariant c.back_step.ensures.loan
    (subst (λ (o : Option (List ℕ)). HasCause g.D.Disk.meaning c.loop.store c.back_step.new.store (Ok o)) c.in-Ok-Some.field-0-is c.in-Ok-Some.ensures.cause)
    (λ Q q on. subst (λ (o : Option (List ℕ)). Adds g.D.Disk.meaning Q (backed Q c.args.txn) c.loop.store c.back_step.new.store (Ok o)) c.in-Ok-Some.field-0-is (c.in-Ok-Some.ensures.makes Q q on))
    (λ Q q on. sym c.in-Ok-Some.field-0-is ∙ c.in-Ok-Some.ensures.answer Q q on)

pub returns-clause-comes : goal.returns-clause-comes
returns-clause-comes g c = λ R h f. back_all g.D.Disk.meaning c.args.txn c.loop.counter c.log_len-end.result c.args.store.now c.loop.store c.loop.invariant (λ Q q. c.log_len-end.ensures.list Q q) c.loop-test.false R h f
