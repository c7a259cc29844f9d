use Rattle.recovery.proofs.Loops.{rolled_any}
use Rattle.recovery.proofs.closing.roll_back.Goals as goal

pub returns-in-Ok-clause-comes : goal.returns-in-Ok-clause-comes
returns-in-Ok-clause-comes g c = λ R h f. rolled_any g.D.Disk.meaning c.args.txn R c.args.store.now c.take_back_all.new.store c.end_back.new.store _ c.end_back.result h f c.end_back.ensures.loan (c.in-Ok.ensures.comes R h f) (c.in-Ok.ensures.cause.kept c.requires.unspent) (λ Q q may. c.end_back.ensures.makes Q q may)
