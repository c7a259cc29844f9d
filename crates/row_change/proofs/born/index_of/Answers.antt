use Rattle.store_core.proofs.Lookups.{looked_ok, looked_err}
use Rattle.row_change.proofs.Having.{header_has}
use Rattle.row_change.proofs.Searching.{search_on}
use Rattle.row_change.proofs.born.index_of.Goals as goal

pub returns-in-Err-clause-looked : goal.returns-in-Err-clause-looked
returns-in-Err-clause-looked g c = looked_err g.D.Disk.meaning c.args.store.now c.fetch.new.self c.in-Err.fault c.in-Err.ensures.looked

pub returns-in-Err-clause-sound : goal.returns-in-Err-clause-sound
returns-in-Err-clause-sound g c = λ R o t h n. c.in-Err.ensures.sound R t.list n (header_has c.args.store.now.shape R o c.args.search.now h)

pub returns-clause-looked : goal.returns-clause-looked
returns-clause-looked g c = looked_ok g.D.Disk.meaning c.args.store.now c.fetch.new.self c.in-Ok.field-0 _ c.in-Ok.ensures.looked

pub returns-clause-says : goal.returns-clause-says
returns-clause-says g c = λ R o t h. c.told_index.ensures R o (c.in-Ok.ensures.looked.stays_true R t) (search_on g.D.Disk.meaning c.args.store.now c.fetch.new.self _ R o c.args.search.now c.in-Ok.ensures.looked h)
