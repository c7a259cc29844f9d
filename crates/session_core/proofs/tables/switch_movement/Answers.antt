use Rattle.session_core.proofs.Calls.{acted_memory}
use Rattle.session_core.proofs.tables.switch_movement.Goals as goal

pub returns-in-Err-clause-acted : goal.returns-in-Err-clause-acted
returns-in-Err-clause-acted g c = λ x at h there f. acted_memory g.D.Disk.meaning x _ c.args.own c.args.store.now at
