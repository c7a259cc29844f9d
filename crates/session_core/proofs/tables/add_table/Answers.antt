use Rattle.session_core.proofs.Calls.{acted_memory, called_memory}
use Rattle.session_core.proofs.tables.add_table.Goals as goal

pub returns-in-Err-clause-acted : goal.returns-in-Err-clause-acted
returns-in-Err-clause-acted g c = λ x at h f. acted_memory g.D.Disk.meaning x _ c.args.own c.args.store.now at

pub returns-in-Err-clause-called : goal.returns-in-Err-clause-called
returns-in-Err-clause-called g c = called_memory g.D.Disk.meaning c.args.store.now c.requires.unspent
