use Rattle.session_core.proofs.Calls.{acted_as, acted_fails}
use Rattle.session_core.proofs.MakingTables.{switched, is_table}
use Rattle.session_core.proofs.tables.switch_named.Goals as goal

pub returns-in-Ok-clause-acted : goal.returns-in-Ok-clause-acted
returns-in-Ok-clause-acted g c = λ x at h there f.
    let i = is_table g.D.Disk.meaning x c.args.own c.args.store.now c.args.told c.args.obj at there in
    acted_as g.D.Disk.meaning x _ c.args.store.now c.movement.new.store c.over.result _ c.over.ensures
    (switched g.D.Disk.meaning x c.args.told c.args.on c.args.obj c.args.own c.args.store.now c.movement.new.store _ at h there f c.in-Ok.ensures.tried.loan (c.in-Ok.ensures.adds x.ended at.stands i))

pub returns-in-Err-clause-acted : goal.returns-in-Err-clause-acted
returns-in-Err-clause-acted g c = λ x at h there f.
    let i = is_table g.D.Disk.meaning x c.args.own c.args.store.now c.args.told c.args.obj at there in
    acted_fails g.D.Disk.meaning x _ c.args.own c.args.store.now c.movement.new.store c.in-Err.fault _ at c.in-Err.ensures.tried.loan (c.in-Err.ensures.adds x.ended at.stands i)
