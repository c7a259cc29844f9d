use Rattle.session_core.proofs.Calls.{acted_as, acted_looked}
use Rattle.session_core.proofs.NewRows.{own_acts}
use Rattle.session_core.proofs.OnRows.{row_table, place_told}
use Rattle.session_core.proofs.changing.locate_row.Goals as goal

pub returns-in-Ok-clause-acted : goal.returns-in-Ok-clause-acted
returns-in-Ok-clause-acted g c = λ x st at k.
    let a = c.args.store.now in
    let allowed = at.stands.lawful.allowed in
    acted_as g.D.Disk.meaning x _ a c.locate.new.store c.told_place.result _ c.told_place.ensures
    (place_told g.D.Disk.meaning x st c.args.work.now c.args.own a c.locate.new.store c.in-Ok.found at k c.in-Ok.ensures.looked (c.in-Ok.ensures.says x.ended at.stands (row_table a.shape a.shape x st _ allowed k) (own_acts a.shape x.ended x.session c.args.own allowed at.own_is)))

pub returns-in-Err-clause-acted : goal.returns-in-Err-clause-acted
returns-in-Err-clause-acted g c = λ x st at k.
    let a = c.args.store.now in
    let allowed = at.stands.lawful.allowed in
    acted_looked g.D.Disk.meaning x _ c.args.own a c.locate.new.store c.in-Err.fault at c.in-Err.ensures.looked (c.in-Err.ensures.sound x.ended at.stands (row_table a.shape a.shape x st _ allowed k) (own_acts a.shape x.ended x.session c.args.own allowed at.own_is) at.unspent)
