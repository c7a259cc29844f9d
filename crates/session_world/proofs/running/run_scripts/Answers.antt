use Rattle.session_world.proofs.Beginning.{never_begun}
use Rattle.session_world.proofs.running.run_scripts.Goals as goal

pub returns-in-Err-clause-ran : goal.returns-in-Err-clause-ran
returns-in-Err-clause-ran g c = λ R0 t none. never_begun g.D.Disk.meaning c.args.scripts.now R0 c.args.store.now (g.K.Sink.written c.args.sink.now) t none
