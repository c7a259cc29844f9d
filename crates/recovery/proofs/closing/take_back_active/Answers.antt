use Rattle.recovery.proofs.Loops.{flush_any}
use Rattle.recovery.proofs.closing.take_back_active.Goals as goal

pub returns-in-Ok-clause-comes : goal.returns-in-Ok-clause-comes
returns-in-Ok-clause-comes g c = λ R h. flush_any g.D.Disk.meaning R c.args.store.now c.roll_back_all.new.store c.flush_log.new.self _ c.flush_log.result (c.in-Ok.ensures.comes R h) c.flush_log.ensures.looked (c.flush_log.ensures.only (c.in-Ok.ensures.cause.kept c.requires.unspent))
