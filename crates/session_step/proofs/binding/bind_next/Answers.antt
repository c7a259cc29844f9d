use Rattle.std.specs.Prelude.{Option, OnOk}
use Rattle.std.proofs.Common.{sym, subst, refl}
use Rattle.script_text.specs.declared.statement.Statement.{Statement}
use Rattle.session_step.specs.Bindings.{IsBoundIn}
use Rattle.session_step.proofs.Scripts.{got_some, got_none}
use Rattle.session_step.proofs.binding.bind_next.Goals as goal

pub returns-in-Some : goal.returns-in-Some
returns-in-Some c =
    let got = got_some c.args.script.now c.args.told c.in-Some.statement.now c.in-Some.ensures.lookup.3.0 c.in-Some.ensures.lookup.1 in
    record { bound = subst (λ (o : Option Statement). OnOk c.bind_label.result (IsBoundIn o c.args.row c.args.labels.now c.bind_label.new.labels)) (sym got) c.bind_label.ensures.bound }

pub returns-in-None : goal.returns-in-None
returns-in-None c =
    let got = got_none c.args.script.now c.args.told c.in-None.ensures.lookup.3 in
    record { bound = subst (λ (o : Option Statement). IsBoundIn o c.args.row c.args.labels.now c.args.labels.now) (sym got) refl }
