use Rattle.session_core.proofs.Calls.{acted_after, looked_stays, stayed_at, called_looked}
use Rattle.session_core.proofs.NewRows.{table_of, insert_unfound, unfound_called, inserting_as, insert_found}
use Rattle.session_core.proofs.Blocks.{noted_as, noted_looked}
use Rattle.session_core.proofs.inserting.go_on_inserting.Goals as goal

pub returns-in-Ok-clause-acted : goal.returns-in-Ok-clause-acted
returns-in-Ok-clause-acted g c = λ x name label at by size w.
    let M = g.D.Disk.meaning in
    let a = c.args.store.now in
    let b = c.find_block.new.store in
    let stays = looked_stays M x c.args.own a b _ at c.in-Ok.ensures.looked in
    let f = c.in-Ok.ensures.found x.ended at.stands (table_of a.shape x.ended name c.args.obj at.stands.lawful.allowed w.still) in
    acted_after M x _ a b c.act_on_found.new.store c.act_on_found.result stays
    (c.act_on_found.ensures.acted x name label c.args.hint (stayed_at M x c.args.own a b at stays) by size (inserting_as a.shape b.shape x name label c.args.bytes.now c.args.obj stays.shape w)
    (insert_found a.shape b.shape x.ended c.args.obj c.args.bytes.now c.args.own c.args.hint c.in-Ok.found stays.shape f))

pub returns-in-Err-clause-acted : goal.returns-in-Err-clause-acted
returns-in-Err-clause-acted g c = λ x name label at by size w.
    let a = c.args.store.now in
    let table = table_of a.shape x.ended name c.args.obj at.stands.lawful.allowed w.still in
    insert_unfound g.D.Disk.meaning x name label c.args.bytes.now c.args.own c.args.obj a c.find_block.new.store c.in-Err.fault c.not_found.result c.not_found.ensures at w c.in-Err.ensures.looked (c.in-Err.ensures.refused x.ended at.stands table) (c.in-Err.ensures.sound x.ended at.stands table at.unspent)

pub returns-in-Ok-clause-called : goal.returns-in-Ok-clause-called
returns-in-Ok-clause-called g c = called_looked g.D.Disk.meaning c.args.store.now c.find_block.new.store c.act_on_found.new.store _ c.act_on_found.result c.requires.unspent c.in-Ok.ensures.looked c.act_on_found.ensures.called

pub returns-in-Err-clause-called : goal.returns-in-Err-clause-called
returns-in-Err-clause-called g c = unfound_called g.D.Disk.meaning c.args.own c.args.store.now c.find_block.new.store c.in-Err.fault c.not_found.result c.not_found.ensures c.requires.unspent c.in-Err.ensures.looked

pub returns-in-Ok-clause-noted : goal.returns-in-Ok-clause-noted
returns-in-Ok-clause-noted g c = λ x name label at by size w e.
    let M = g.D.Disk.meaning in
    let a = c.args.store.now in
    let b = c.find_block.new.store in
    let stays = looked_stays M x c.args.own a b _ at c.in-Ok.ensures.looked in
    let f = c.in-Ok.ensures.found x.ended at.stands (table_of a.shape x.ended name c.args.obj at.stands.lawful.allowed w.still) in
    c.act_on_found.ensures.noted x name label c.args.hint (stayed_at M x c.args.own a b at stays) by size (inserting_as a.shape b.shape x name label c.args.bytes.now c.args.obj stays.shape w)
    (insert_found a.shape b.shape x.ended c.args.obj c.args.bytes.now c.args.own c.args.hint c.in-Ok.found stays.shape f) e

pub returns-in-Err-clause-noted : goal.returns-in-Err-clause-noted
returns-in-Err-clause-noted g c = λ x name label at by size w e. noted_as g.D.Disk.meaning x.ended c.find_block.new.store c.args.changed.now _ e (noted_looked g.D.Disk.meaning x.ended c.args.store.now c.find_block.new.store _ at.stands c.in-Err.ensures.looked)
