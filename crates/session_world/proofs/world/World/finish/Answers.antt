use Rattle.std.proofs.Common.{sym, subst, ◌∙◌}
use Rattle.std.specs.Prelude.{ℕ, List, Option}
use Rattle.redo_model.specs.Records.{Record}
use Rattle.store_core.specs.Store.{Held}
use Rattle.session_world.specs.Calling.{HasServed}
use Rattle.session_world.specs.Between.{IsIdle}
use Rattle.session_world.specs.Whole.{HasRunTurns}
use Rattle.session_world.specs.Lent.{Lent}
use Rattle.session_world.proofs.Lending.{while_unspent}
use Rattle.session_world.proofs.world.World.finish.Goals as goal

pub invariant_of-self : goal.invariant_of-self
invariant_of-self g c = record {
  built = c.self.invariant.built;
  unspent = λ e. while_unspent c.close_run-closed.result (c.close_run-closed.ensures.served 0).unspent (sym c.fault_of-self-inside.ensures ∙ e);
}

pub returns-clause-closed : goal.returns-clause-closed
returns-clause-closed g c =
    let M = g.D.Disk.meaning in
    let w = g.K.Sink.written in
    let s = c.self.inside in
    let now = c.close_run-closed.new in
    let r = c.close_run-closed.result in
    subst (λ (z : Lent g.row.D.Denot g.row.K.Denot). (R0 : List Record) (called : List ℕ) (first : Held g.row.D.Denot) (before : Option (List ℕ)) → IsIdle M z.script.sessions R0 called first z.store before (w z.sink) z.run → HasRunTurns M z.script.sessions R0 called first now.store before (w s.sink.now) r) c.self.view_is
    (λ R0 called first before h. (c.close_run-closed.ensures.closed s.parts.scripts.sessions R0 called first before (w s.sink.now) s.parts.run h).taken)

pub returns-clause-served : goal.returns-clause-served
returns-clause-served g c =
    let M = g.D.Disk.meaning in
    let f = g.K.Sink.fault_count in
    let s = c.self.inside in
    let now = c.close_run-closed.new in
    let r = c.close_run-closed.result in
    subst (λ (z : Lent g.row.D.Denot g.row.K.Denot). HasServed M z.store now.store (f z.sink) (f s.sink.now) r) c.self.view_is (c.close_run-closed.ensures.served (f s.sink.now))
