use Rattle.std.specs.Prelude.{length}
use Rattle.session_step.proofs.Running.{finishes_as}
use Rattle.session_step.proofs.stepping.tell.Goals as goal

pub returns-in-Ok-clause-finishes : goal.returns-in-Ok-clause-finishes
returns-in-Ok-clause-finishes g c =
    finishes_as c.args.who (length c.args.script.now) c.log_len.result c.args.store.now.log.count c.moment-moment.result (g.D.Disk.meaning.clock c.args.store.now.disk) c.args.acted c.args.session.now c.finish.new.session c.args.history.now c.finish.new.history
    c.log_len.ensures.value c.moment-moment.ensures.moment c.in-Ok.ensures.finishes
