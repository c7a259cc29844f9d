use Rattle.std.proofs.Common.{sym, subst}
use Rattle.std.specs.Prelude.{List}
use Rattle.script_text.specs.declared.statement.Statement.{Statement}
use Rattle.session_world.specs.Scripts.{AreScripts}
use Rattle.session_world.proofs.Runnable.{scripts_run}
use Rattle.session_world.proofs.Serving.{served_on}
use Rattle.session_world.proofs.Beginning.{run_whole, run_part}
use Rattle.session_world.proofs.running.run_in.Goals as goal

pub run_sessions-requires-clause-runnable : goal.run_sessions-requires-clause-runnable
run_sessions-requires-clause-runnable g c = subst (λ (z : List (List Statement)). AreScripts z) (sym c.sessions.ensures.sessions) (scripts_run c.args.scripts.now c.requires.built)

pub returns-in-Ok-clause-ran : goal.returns-in-Ok-clause-ran
returns-in-Ok-clause-ran g c = λ R0 t none.
    run_whole g.D.Disk.meaning c.args.scripts.now c.sessions.result.now c.schedule.result.now c.sessions.ensures.sessions c.schedule.ensures R0 c.args.store.now c.run_sessions.new.store c.close_run.new.store (g.K.Sink.written c.args.sink.now) (g.K.Sink.written c.run_sessions.new.sink) c.args.run.now c.run_sessions.new.run t none c.requires.fresh
    c.close_run.result c.in-Ok.ensures.comes c.close_run.ensures.closed

pub returns-in-Ok-clause-served : goal.returns-in-Ok-clause-served
returns-in-Ok-clause-served g c =
    let n = g.K.Sink.fault_count in
    served_on {A = Unit {0}} {B = Unit {0}} g.D.Disk.meaning c.args.store.now c.run_sessions.new.store c.close_run.new.store (n c.args.sink.now) (n c.run_sessions.new.sink) (n c.run_sessions.new.sink) tt c.close_run.result c.in-Ok.ensures.served (c.close_run.ensures.served (n c.run_sessions.new.sink))

pub returns-in-Err-clause-ran : goal.returns-in-Err-clause-ran
returns-in-Err-clause-ran g c = λ R0 t none.
    run_part g.D.Disk.meaning c.args.scripts.now c.sessions.result.now c.schedule.result.now c.sessions.ensures.sessions c.schedule.ensures R0 c.args.store.now c.run_sessions.new.store c.run_sessions.new.store (g.K.Sink.written c.args.sink.now) (g.K.Sink.written c.run_sessions.new.sink) c.args.run.now c.run_sessions.new.run t none c.requires.fresh
    c.in-Err.fault c.in-Err.ensures.comes
