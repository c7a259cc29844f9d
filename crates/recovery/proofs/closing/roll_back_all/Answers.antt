use Rattle.std.proofs.Common.{Bool, subst}
use Rattle.recovery.specs.Coming.{ComesNext}
use Rattle.recovery.proofs.Loops.{close_first, close_next, close_done, close_refused, close_all}
use Rattle.recovery.proofs.closing.roll_back_all.Goals as goal

pub loop-init : goal.loop-init
loop-init g c = close_first g.D.Disk.meaning c.args.store.now c.requires.unspent

pub returns-in-Ok-false-clause-comes : goal.returns-in-Ok-false-clause-comes
returns-in-Ok-false-clause-comes g c = λ R h. close_done g.D.Disk.meaning c.loop.counter c.args.store.now c.loop.store c.roll_back_next.new.store c.loop.invariant (λ Q q. subst (λ (b : Bool). ComesNext g.D.Disk.meaning Q c.loop.store c.roll_back_next.new.store b) c.in-Ok-false.field-0-test (c.in-Ok-false.ensures.next Q q)) R h

pub returns-in-Err-clause-comes : goal.returns-in-Err-clause-comes
returns-in-Err-clause-comes g c = λ R h. close_refused g.D.Disk.meaning c.loop.counter c.args.store.now c.loop.store c.roll_back_next.new.store c.in-Err.fault c.loop.invariant (λ Q q. c.in-Err.ensures.stopped Q q) (λ Q q. c.in-Err.ensures.sound Q q) R h

pub loop-preserved : goal.loop-preserved
loop-preserved g c = close_next g.D.Disk.meaning c.loop.counter c.args.store.now c.loop.store c.roll_back_next.new.store c.in-Ok-true.field-0 c.loop.invariant (λ Q q. subst (λ (b : Bool). ComesNext g.D.Disk.meaning Q c.loop.store c.roll_back_next.new.store b) c.in-Ok-true.field-0-test (c.in-Ok-true.ensures.next Q q)) c.in-Ok-true.ensures.keeps c.in-Ok-true.ensures.cause

pub returns-clause-comes : goal.returns-clause-comes
returns-clause-comes g c = λ R h. close_all g.D.Disk.meaning c.loop.counter c.args.store.now c.loop.store c.loop.invariant c.loop-test.false R h
