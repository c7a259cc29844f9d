use Rattle.head_laws.specs.Heads.{sought_by}
use Rattle.session_core.proofs.Calls.{acted_after, looked_stays, called_looked}
use Rattle.session_core.proofs.NewRows.{unfound_called}
use Rattle.session_core.proofs.OnRows.{row_table}
use Rattle.session_core.proofs.Updates.{found_later, needy_later, notes_later, unfound_notes, update_unfound, updating_later}
use Rattle.session_core.proofs.updating.go_elsewhere.Goals as goal

pub returns-in-Ok-clause-acted : goal.returns-in-Ok-clause-acted
returns-in-Ok-clause-acted g c = λ x name target u e.
    let M = g.D.Disk.meaning in
    let a = c.args.store.now in
    let b = c.find_other.new.store in
    let own = c.args.own.now in
    let w = c.args.work.now in
    let p = c.args.place.now in
    let stays = looked_stays M x own a b _ u.at c.in-Ok.ensures.looked in
    let f = c.in-Ok.ensures.found x.ended u.at.stands (row_table a.shape a.shape x _ _ u.at.stands.lawful.allowed u.changing) in
    acted_after M x _ a b c.act_on_found.new.store c.act_on_found.result stays
    (c.act_on_found.ensures.acted x name target c.args.len c.args.hint (updating_later M x name target c.args.bytes.now c.args.who own w p a b stays u) (needy_later a.shape b.shape x own w p c.args.bytes.now c.args.len stays.shape e)
    (found_later a.shape b.shape x.ended (sought_by own w.obj c.args.len p.head p.at) c.args.hint c.in-Ok.found stays.shape f))

pub returns-in-Err-clause-acted : goal.returns-in-Err-clause-acted
returns-in-Err-clause-acted g c = λ x name target u e.
    let a = c.args.store.now in
    let table = row_table a.shape a.shape x _ _ u.at.stands.lawful.allowed u.changing in
    update_unfound g.D.Disk.meaning x name target c.args.bytes.now c.args.who c.args.own.now c.args.work.now c.args.place.now a c.find_other.new.store c.args.len c.in-Err.fault c.not_found.result c.not_found.ensures u e c.in-Err.ensures.looked
    (c.in-Err.ensures.refused x.ended u.at.stands table) (c.in-Err.ensures.sound x.ended u.at.stands table u.at.unspent)

pub returns-in-Ok-clause-called : goal.returns-in-Ok-clause-called
returns-in-Ok-clause-called g c = called_looked g.D.Disk.meaning c.args.store.now c.find_other.new.store c.act_on_found.new.store _ c.act_on_found.result c.requires.unspent c.in-Ok.ensures.looked c.act_on_found.ensures.called

pub returns-in-Err-clause-called : goal.returns-in-Err-clause-called
returns-in-Err-clause-called g c = unfound_called g.D.Disk.meaning c.args.own.now c.args.store.now c.find_other.new.store c.in-Err.fault c.not_found.result c.not_found.ensures c.requires.unspent c.in-Err.ensures.looked

pub returns-in-Ok-clause-noted : goal.returns-in-Ok-clause-noted
returns-in-Ok-clause-noted g c = λ x name target u e.
    let M = g.D.Disk.meaning in
    let a = c.args.store.now in
    let b = c.find_other.new.store in
    let own = c.args.own.now in
    let w = c.args.work.now in
    let p = c.args.place.now in
    let stays = looked_stays M x own a b _ u.at c.in-Ok.ensures.looked in
    let f = c.in-Ok.ensures.found x.ended u.at.stands (row_table a.shape a.shape x _ _ u.at.stands.lawful.allowed u.changing) in
    notes_later a.shape b.shape x.ended own w p c.args.bytes.now c.args.hint c.args.changed.now c.act_on_found.new.changed c.act_on_found.result stays.shape
    (c.act_on_found.ensures.noted x name target c.args.len c.args.hint (updating_later M x name target c.args.bytes.now c.args.who own w p a b stays u) (needy_later a.shape b.shape x own w p c.args.bytes.now c.args.len stays.shape e)
    (found_later a.shape b.shape x.ended (sought_by own w.obj c.args.len p.head p.at) c.args.hint c.in-Ok.found stays.shape f))

pub returns-in-Err-clause-noted : goal.returns-in-Err-clause-noted
returns-in-Err-clause-noted g c = λ x name target u e.
    unfound_notes c.args.store.now.shape x.ended c.args.own.now c.args.work.now c.args.place.now c.args.bytes.now c.args.hint c.args.changed.now c.in-Err.fault c.not_found.result c.not_found.ensures
