use Rattle.std.proofs.Common.{sym, subst, ◌∙◌}
use Rattle.std.specs.Prelude.{ℕ, List, Option}
use Rattle.redo_model.specs.Records.{Record}
use Rattle.script_text.specs.Script.{Script}
use Rattle.script_text.specs.Spelled.{IsScript}
use Rattle.session_step.specs.declared.forms.TheConstants.{BUILT_FORMS}
use Rattle.store_core.specs.Store.{Held}
use Rattle.session_world.specs.Calling.{HasServed}
use Rattle.session_world.specs.Between.{IsSoFar, TakesTurn}
use Rattle.session_world.specs.Lent.{Lent}
use Rattle.session_world.proofs.Lending.{while_unspent}
use Rattle.session_world.proofs.world.World.step.Goals as goal

pub invariant_of-self : goal.invariant_of-self
invariant_of-self g c = record {
  built = subst (λ (z : Script). IsScript BUILT_FORMS z) (sym c.step_parts-stepped.ensures.kept) c.self.invariant.built;
  unspent = λ e. while_unspent c.step_parts-stepped.result c.step_parts-stepped.ensures.served.unspent (sym c.fault_of-self-inside.ensures ∙ e);
}

pub returns-clause-turns : goal.returns-clause-turns
returns-clause-turns g c =
    let M = g.D.Disk.meaning in
    let w = g.K.Sink.written in
    let now = c.step_parts-stepped.new in
    let r = c.step_parts-stepped.result in
    subst (λ (z : Lent g.row.D.Denot g.row.K.Denot). (R0 R : List Record) (called : List ℕ) (first : Held g.row.D.Denot) (before : Option (List ℕ)) → IsSoFar M z.script.sessions R0 R called first z.store before (w z.sink) z.run → TakesTurn M z.script.sessions R0 R called c.args.who first now.store before (w now.sink) z.run now.parts.run r) c.self.view_is c.step_parts-stepped.ensures.turns

pub returns-clause-served : goal.returns-clause-served
returns-clause-served g c =
    let M = g.D.Disk.meaning in
    let f = g.K.Sink.fault_count in
    let now = c.step_parts-stepped.new in
    let r = c.step_parts-stepped.result in
    subst (λ (z : Lent g.row.D.Denot g.row.K.Denot). HasServed M z.store now.store (f z.sink) (f now.sink) r) c.self.view_is c.step_parts-stepped.ensures.served
