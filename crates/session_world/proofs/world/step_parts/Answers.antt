use Rattle.std.proofs.Common.{sym, subst}
use Rattle.std.specs.Prelude.{List}
use Rattle.script_text.specs.declared.statement.Statement.{Statement}
use Rattle.session_world.specs.Scripts.{AreScripts}
use Rattle.session_world.specs.Between.{IsSoFar, TakesTurn}
use Rattle.session_world.proofs.Runnable.{scripts_run}
use Rattle.session_world.proofs.world.step_parts.Goals as goal

pub step_run-requires-clause-runnable : goal.step_run-requires-clause-runnable
step_run-requires-clause-runnable g c = subst (λ (z : List (List Statement)). AreScripts z) (sym c.sessions.ensures.sessions) (scripts_run c.args.parts.now.scripts c.requires.built)

pub returns-clause-turns : goal.returns-clause-turns
returns-clause-turns g c = λ R0 R called first before so.
    let M = g.D.Disk.meaning in
    let w = g.K.Sink.written in
    let was = c.args.parts.now.run in
    let e = c.sessions.ensures.sessions in
    subst (λ (z : List (List Statement)). TakesTurn M z R0 R called c.args.who first c.step_run.new.store before (w c.step_run.new.sink) was c.step_run.new.run c.step_run.result) e
    (c.step_run.ensures.turns R0 R called first before (subst (λ (z : List (List Statement)). IsSoFar M z R0 R called first c.args.store.now before (w c.args.sink.now) was) (sym e) so))
