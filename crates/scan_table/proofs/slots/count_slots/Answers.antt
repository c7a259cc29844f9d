use Rattle.store_core.proofs.Lookups.{looked_ok, refused_after}
use Rattle.scan_table.proofs.Going.{data_has, reading_on}
use Rattle.scan_table.proofs.slots.count_slots.Goals as goal

pub returns-in-Err-clause-sound : goal.returns-in-Err-clause-sound
returns-in-Err-clause-sound g c = λ R o q t h n. c.in-Err.ensures.sound R t.list n (data_has c.args.store.now.shape R q o c.args.dba h)

pub returns-in-Some-clause-looked : goal.returns-in-Some-clause-looked
returns-in-Some-clause-looked g c = looked_ok g.D.Disk.meaning c.args.store.now c.fetch.new.self c.in-Ok.field-0 _ c.in-Ok.ensures.looked

pub returns-in-Some-clause-says : goal.returns-in-Some-clause-says
returns-in-Some-clause-says g c = λ R o q t h. c.in-Some.ensures R o q (c.in-Ok.ensures.looked.stays_true R t) (reading_on g.D.Disk.meaning c.args.store.now c.fetch.new.self _ R q o c.args.dba c.in-Ok.ensures.looked h)

pub returns-in-None-clause-looked : goal.returns-in-None-clause-looked
returns-in-None-clause-looked g c = refused_after g.D.Disk.meaning c.args.store.now c.fetch.new.self c.refuse.new.self c.in-Ok.field-0 c.refuse.result c.in-Ok.ensures.looked c.refuse.ensures.looked

pub returns-in-None-clause-sound : goal.returns-in-None-clause-sound
returns-in-None-clause-sound g c = λ R o q t h n. absurd (c.in-None.ensures R o q (c.in-Ok.ensures.looked.stays_true R t) (reading_on g.D.Disk.meaning c.args.store.now c.fetch.new.self _ R q o c.args.dba c.in-Ok.ensures.looked h))
