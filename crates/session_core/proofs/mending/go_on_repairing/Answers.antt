use Rattle.std.specs.Prelude.{Some, List, ℕ}
use Rattle.std.proofs.Common.{sym, subst}
use Rattle.script_text.specs.declared.statement.Statement.TheVariants as asked
use Rattle.session_core.specs.Acting.{HasActed}
use Rattle.session_core.specs.RepairEvents.{IsRepairing}
use Rattle.session_core.proofs.Calls.{acted_memory, called_memory}
use Rattle.session_core.proofs.mending.go_on_repairing.Goals as goal

pub returns-in-Ok-clause-acted : goal.returns-in-Ok-clause-acted
returns-in-Ok-clause-acted g c = λ x at r.
    let e = c.in-Ok.ensures in
    subst (λ (z : List ℕ). HasActed g.D.Disk.meaning x (Some (asked.Repair z)) c.args.store.now c.repair_named.new.store c.repair_named.result) e
    (c.repair_named.ensures.acted x at (subst (λ (z : List ℕ). IsRepairing c.args.store.now.shape x z c.args.begins c.args.work) (sym e) r))

pub returns-in-Err-clause-acted : goal.returns-in-Err-clause-acted
returns-in-Err-clause-acted g c = λ x at r. acted_memory g.D.Disk.meaning x _ c.args.own c.args.store.now at

pub returns-in-Err-clause-called : goal.returns-in-Err-clause-called
returns-in-Err-clause-called g c = called_memory g.D.Disk.meaning c.args.store.now c.requires.unspent
