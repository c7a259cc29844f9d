use Rattle.std.proofs.Common.{subst, Some, None}
use Rattle.session_core.proofs.OnRows.{change_begins, changing_as, about_as, unbound_acted, unbound_called}
use Rattle.session_core.proofs.changing.look_first.Goals as goal

pub returns-in-Some-clause-acted : goal.returns-in-Some-clause-acted
returns-in-Some-clause-acted g c = λ x st name at s k p.
    c.locate_row.ensures.acted x st at
    (changing_as c.args.store.now.shape x st _ _ c.begun_work-work.ensures (change_begins c.args.store.now.shape x st name c.args.target.now c.args.obj c.in-Some.row s (about_as x st name c.args.target.now _ _ c.in-Some.is k) p))

pub returns-in-None-clause-acted : goal.returns-in-None-clause-acted
returns-in-None-clause-acted g c = λ x st name at s k p.
    unbound_acted g.D.Disk.meaning x st name c.args.target.now c.args.own c.args.obj c.args.store.now c.unbound.result c.unbound.ensures at s (about_as x st name c.args.target.now _ _ c.in-None.is k) p

pub returns-in-None-clause-called : goal.returns-in-None-clause-called
returns-in-None-clause-called g c = unbound_called g.D.Disk.meaning c.args.target.now c.args.own c.args.store.now c.unbound.result c.unbound.ensures c.requires.unspent
