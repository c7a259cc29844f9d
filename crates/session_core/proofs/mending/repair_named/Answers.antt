use Rattle.std.proofs.Common.{sym, ◌∙◌}
use Rattle.session_core.specs.RepairEvents.{repair_turned}
use Rattle.session_core.proofs.Calls.{acted_as, acted_same, called_same}
use Rattle.session_core.proofs.RepairEvents.{repair_turns}
use Rattle.session_core.proofs.mending.repair_named.Goals as goal

pub returns-in-Some-clause-acted : goal.returns-in-Some-clause-acted
returns-in-Some-clause-acted g c = λ x at r. c.repair_next.ensures.acted x at r (sym c.next_block.ensures ∙ c.in-Some.is)

pub returns-in-None-clause-acted : goal.returns-in-None-clause-acted
returns-in-None-clause-acted g c = λ x at r.
    let M = g.D.Disk.meaning in
    let a = c.args.store.now in
    let z = repair_turned c.args.work c.args.table c.args.own in
    acted_as M x _ a a c.repair_turned.result z c.repair_turned.ensures (acted_same M x _ c.args.own a z at (repair_turns a.shape x x.ended c.args.table c.args.own c.args.work r.passed r.stands r.whole at.own_is))

pub returns-in-None-clause-called : goal.returns-in-None-clause-called
returns-in-None-clause-called g c = called_same g.D.Disk.meaning c.args.store.now _ c.requires.unspent
