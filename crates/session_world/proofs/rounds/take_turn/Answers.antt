use Rattle.session_world.proofs.Circling.{turned_made, turned_ended}
use Rattle.session_world.proofs.rounds.take_turn.Goals as goal

pub returns-in-Ok-Made-clause-turned : goal.returns-in-Ok-Made-clause-turned
returns-in-Ok-Made-clause-turned g c = λ R0 R called first before so.
    turned_made g.D.Disk.meaning c.args.scripts.now R0 R called c.args.who first c.step_run.new.store before (g.K.Sink.written c.step_run.new.sink) c.args.run.now c.step_run.new.run c.in-Ok-Made.field-0 c.in-Ok-Made.field-0-is (c.in-Ok-Made.ensures.turns R0 R called first before so)

pub returns-in-Ok-Ended-clause-turned : goal.returns-in-Ok-Ended-clause-turned
returns-in-Ok-Ended-clause-turned g c = λ R0 R called first before so.
    turned_ended g.D.Disk.meaning c.args.scripts.now R0 R called c.args.who first c.step_run.new.store before (g.K.Sink.written c.step_run.new.sink) c.args.run.now c.step_run.new.run c.in-Ok-Ended.field-0 c.in-Ok-Ended.field-0-is (c.in-Ok-Ended.ensures.turns R0 R called first before so)
