use Rattle.std.specs.Prelude.{Some, List, ℕ, false}
use Rattle.std.proofs.Common.{sym, subst}
use Rattle.script_text.specs.declared.statement.Statement.TheVariants as asked
use Rattle.session_core.specs.Marks.{HasActedMarking}
use Rattle.session_core.specs.ShrinkEvents.{IsLowering}
use Rattle.session_core.proofs.Calls.{called_memory}
use Rattle.session_core.proofs.Lowerings.{memory_acted}
use Rattle.session_core.proofs.shrunk.end_shrink.Goals as goal

pub returns-in-Ok-clause-acted : goal.returns-in-Ok-clause-acted
returns-in-Ok-clause-acted g c = λ x at r.
    let e = c.in-Ok.ensures in
    subst (λ (z : List ℕ). HasActedMarking g.D.Disk.meaning x (Some (asked.Shrink z false)) c.args.scans.now c.lower_named.new.scans c.args.store.now c.lower_named.new.store c.lower_named.result) e
    (c.lower_named.ensures.acted x at (subst (λ (z : List ℕ). IsLowering c.args.store.now.shape x z c.args.work) (sym e) r))

pub returns-in-Err-clause-acted : goal.returns-in-Err-clause-acted
returns-in-Err-clause-acted g c = λ x at r. memory_acted g.D.Disk.meaning x c.args.name.now c.args.own c.args.scans.now c.args.store.now at

pub returns-in-Err-clause-called : goal.returns-in-Err-clause-called
returns-in-Err-clause-called g c = called_memory g.D.Disk.meaning c.args.store.now c.requires.unspent
