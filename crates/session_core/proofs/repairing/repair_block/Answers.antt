use Rattle.session_core.proofs.Calls.{called_ok, called_err}
use Rattle.session_core.proofs.Repairings.{repaired_block, unrepaired_block}
use Rattle.session_core.proofs.repairing.repair_block.Goals as goal

pub returns-in-Ok-clause-repaired : goal.returns-in-Ok-clause-repaired
returns-in-Ok-clause-repaired g c = λ R h.
    repaired_block g.D.Disk.meaning R c.args.obj c.args.dba c.log_len-before.result c.log_len.result c.in-Ok.changed c.args.store.now c.settle.new.store h c.in-Ok.ensures.loan (c.log_len-before.ensures.list R h.holds.list) (λ S l. c.log_len.ensures.list S l) (c.in-Ok.ensures.settles R h)

pub returns-in-Ok-clause-called : goal.returns-in-Ok-clause-called
returns-in-Ok-clause-called g c = called_ok g.D.Disk.meaning c.args.store.now c.settle.new.store c.in-Ok.changed _ c.requires.unspent c.in-Ok.ensures.loan c.in-Ok.ensures.cause

pub returns-in-Err-clause-repaired : goal.returns-in-Err-clause-repaired
returns-in-Err-clause-repaired g c = λ R h. unrepaired_block g.D.Disk.meaning R c.args.obj c.args.dba c.in-Err.fault c.args.store.now c.settle.new.store c.requires.unspent h c.in-Err.ensures.loan (c.in-Err.ensures.settles R h)

pub returns-in-Err-clause-called : goal.returns-in-Err-clause-called
returns-in-Err-clause-called g c = called_err g.D.Disk.meaning c.args.store.now c.settle.new.store c.in-Err.fault c.requires.unspent c.in-Err.ensures.loan c.in-Err.ensures.cause
