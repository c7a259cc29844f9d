use Rattle.store_core.proofs.Lookups.{looked_ok, looked_err}
use Rattle.row_change.proofs.Belonging.{row_position}
use Rattle.row_change.proofs.looking.is_kept.Goals as goal

pub returns-in-Ok-clause-looked : goal.returns-in-Ok-clause-looked
returns-in-Ok-clause-looked g c = looked_ok g.D.Disk.meaning c.args.store.now c.look_at_slot.new.store c.in-Ok.sight _ c.in-Ok.ensures.looked

pub returns-in-Ok-clause-says : goal.returns-in-Ok-clause-says
returns-in-Ok-clause-says g c = λ R o t h b.
    let p = row_position c.args.search.now.shape R o c.args.place.now.at.dba b in
    c.shows.ensures R c.args.search.now.own c.args.place.now.at (c.in-Ok.ensures.says R o p.position t h p.at)

pub returns-in-Err-clause-looked : goal.returns-in-Err-clause-looked
returns-in-Err-clause-looked g c = looked_err g.D.Disk.meaning c.args.store.now c.look_at_slot.new.store c.in-Err.fault c.in-Err.ensures.looked

pub returns-in-Err-clause-sound : goal.returns-in-Err-clause-sound
returns-in-Err-clause-sound g c = λ R o t h b n.
    let p = row_position c.args.search.now.shape R o c.args.place.now.at.dba b in
    c.in-Err.ensures.sound R o p.position t h p.at n
