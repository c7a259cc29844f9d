use Rattle.store_core.proofs.Lookups.{looked_ok}
use Rattle.row_change.proofs.slots.look_for_row.Goals as goal

pub returns-in-Ok-clause-looked : goal.returns-in-Ok-clause-looked
returns-in-Ok-clause-looked g c = looked_ok g.D.Disk.meaning c.args.store.now c.look_at_slot.new.store c.in-Ok.sight _ c.in-Ok.ensures.looked

pub returns-in-Ok-clause-says : goal.returns-in-Ok-clause-says
returns-in-Ok-clause-says g c = λ R o i t h at. c.of_row.ensures R c.args.search.now.own c.args.at (c.in-Ok.ensures.says R o i t h at)
