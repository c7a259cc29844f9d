use Rattle.std.specs.Prelude.{Some}
use Rattle.session_core.proofs.Calls.{called_ok, called_err, acted_fails, acted_as}
use Rattle.session_core.proofs.Ends.{may_end, ended_back}
use Rattle.session_core.proofs.Blocks.{ended_notes, unadded_notes}
use Rattle.session_core.proofs.ending.end_txn.Goals as goal

pub returns-in-Ok-clause-acted : goal.returns-in-Ok-clause-acted
returns-in-Ok-clause-acted g c = λ x st k at w n.
    acted_as g.D.Disk.meaning x st c.args.store.now c.end_back.new.store c.over.result _ c.over.ensures
    (ended_back g.D.Disk.meaning x st c.args.txn _ c.args.store.now c.end_back.new.store k at w c.in-Ok.ensures.loan (c.in-Ok.ensures.makes x.ended at.stands (may_end g.D.Disk.meaning x c.args.txn c.args.store.now at n)))

pub returns-in-Ok-clause-called : goal.returns-in-Ok-clause-called
returns-in-Ok-clause-called g c = called_ok g.D.Disk.meaning c.args.store.now c.end_back.new.store _ _ c.requires.unspent c.in-Ok.ensures.loan c.in-Ok.ensures.cause

pub returns-in-Err-clause-acted : goal.returns-in-Err-clause-acted
returns-in-Err-clause-acted g c = λ x st k at w n.
    acted_fails g.D.Disk.meaning x st (Some c.args.txn) c.args.store.now c.end_back.new.store c.in-Err.fault _ at c.in-Err.ensures.loan (c.in-Err.ensures.makes x.ended at.stands (may_end g.D.Disk.meaning x c.args.txn c.args.store.now at n))

pub returns-in-Err-clause-called : goal.returns-in-Err-clause-called
returns-in-Err-clause-called g c = called_err g.D.Disk.meaning c.args.store.now c.end_back.new.store c.in-Err.fault c.requires.unspent c.in-Err.ensures.loan c.in-Err.ensures.cause

pub returns-in-Ok-clause-noted : goal.returns-in-Ok-clause-noted
returns-in-Ok-clause-noted g c = λ x at n. ended_notes g.D.Disk.meaning x.ended c.args.txn c.args.store.now c.end_back.new.store _ (c.in-Ok.ensures.makes x.ended at.stands (may_end g.D.Disk.meaning x c.args.txn c.args.store.now at n))

pub returns-in-Err-clause-noted : goal.returns-in-Err-clause-noted
returns-in-Err-clause-noted g c = λ x at n. unadded_notes g.D.Disk.meaning x.ended _ c.args.store.now c.end_back.new.store c.in-Err.fault (c.in-Err.ensures.makes x.ended at.stands (may_end g.D.Disk.meaning x c.args.txn c.args.store.now at n))
