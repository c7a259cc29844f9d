use Rattle.session_core.proofs.Calls.{acted_as}
use Rattle.session_core.proofs.MakingTables.{may_make, made_table, table_fails, table_called}
use Rattle.session_core.proofs.tables.add_named.Goals as goal

pub returns-in-Ok-clause-acted : goal.returns-in-Ok-clause-acted
returns-in-Ok-clause-acted g c = λ x at h f.
    let may = may_make c.args.store.now.shape x c.args.name.now c.args.pctfree h c.requires.named c.requires.percent f in
    acted_as g.D.Disk.meaning x _ c.args.store.now c.new_table.new.store c.over.result _ c.over.ensures
    (made_table g.D.Disk.meaning x c.args.name.now c.args.told c.args.pctfree _ c.args.own c.args.store.now c.new_table.new.store c.requires.told at h f c.in-Ok.ensures.tried.loan (c.in-Ok.ensures.adds x.ended at.stands may) (c.in-Ok.ensures.answers x.ended at.stands))

pub returns-in-Err-clause-acted : goal.returns-in-Err-clause-acted
returns-in-Err-clause-acted g c = λ x at h f.
    let may = may_make c.args.store.now.shape x c.args.name.now c.args.pctfree h c.requires.named c.requires.percent f in
    table_fails g.D.Disk.meaning x c.args.name.now c.args.pctfree c.args.own c.args.store.now c.new_table.new.store c.in-Err.fault c.not_made.result c.not_made.ensures at h f c.in-Err.ensures.tried.loan (c.in-Err.ensures.adds x.ended at.stands may) (c.in-Err.ensures.answers x.ended at.stands)

pub returns-in-Err-clause-called : goal.returns-in-Err-clause-called
returns-in-Err-clause-called g c = table_called g.D.Disk.meaning c.args.own c.args.store.now c.new_table.new.store c.in-Err.fault c.not_made.result c.not_made.ensures c.requires.unspent c.in-Err.ensures.tried.loan c.in-Err.ensures.tried.cause
