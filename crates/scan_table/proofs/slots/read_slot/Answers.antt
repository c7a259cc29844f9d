use Rattle.std.proofs.Common.{Option, MatchOption, subst}
use Rattle.scan_table.specs.declared.reader.Shown.{Shown}
use Rattle.scan_table.specs.Reading.{Shows}
use Rattle.store_core.proofs.Lookups.{looked_memory, refused_after}
use Rattle.scan_table.proofs.Going.{data_has, part_on, reading_on, still_unspent}
use Rattle.scan_table.proofs.slots.read_slot.Goals as goal

pub returns-in-Err-clause-says : goal.returns-in-Err-clause-says
returns-in-Err-clause-says g c = λ R o t h. c.in-Err.ensures.sound R t.list c.requires (data_has c.args.store.now.shape R c.args.reader.now o c.args.dba h)

pub row_by-requires : goal.row_by-requires
row_by-requires g c = still_unspent g.D.Disk.meaning c.args.store.now c.fetch.new.self c.in-Ok.field-0 c.in-Ok.ensures.looked

pub returns-in-Ok-Some-clause-looked : goal.returns-in-Ok-Some-clause-looked
returns-in-Ok-Some-clause-looked g c = part_on g.D.Disk.meaning c.args.store.now c.fetch.new.self c.row_by.new.store c.in-Ok.field-0 c.row_by.result c.in-Ok.ensures.looked c.row_by.ensures.looked

pub returns-in-Ok-Some-clause-says : goal.returns-in-Ok-Some-clause-says
returns-in-Ok-Some-clause-says g c = λ R o t h.
    let u = c.in-Ok.ensures.looked.stays_true R t in
    let k = reading_on g.D.Disk.meaning c.args.store.now c.fetch.new.self _ R c.args.reader.now o c.args.dba c.in-Ok.ensures.looked h in
    c.row_by.ensures.says R o u k (subst (λ (x : Option Shown). MatchOption x ⊥ (Shows R c.args.reader.now c.args.dba c.args.slot)) c.in-Ok-Some.field-0-is (c.in-Ok-Some.ensures R o u k))

pub returns-in-Ok-None-clause-looked : goal.returns-in-Ok-None-clause-looked
returns-in-Ok-None-clause-looked g c = refused_after g.D.Disk.meaning c.args.store.now c.fetch.new.self c.refuse.new.self c.in-Ok.field-0 c.refuse.result c.in-Ok.ensures.looked c.refuse.ensures.looked

pub returns-in-Ok-None-clause-says : goal.returns-in-Ok-None-clause-says
returns-in-Ok-None-clause-says g c = λ R o t h.
    let u = c.in-Ok.ensures.looked.stays_true R t in
    let k = reading_on g.D.Disk.meaning c.args.store.now c.fetch.new.self _ R c.args.reader.now o c.args.dba c.in-Ok.ensures.looked h in
    absurd (subst (λ (x : Option Shown). MatchOption x ⊥ (Shows R c.args.reader.now c.args.dba c.args.slot)) c.in-Ok-None.field-0-is (c.in-Ok-None.ensures R o u k))

pub returns-in-Err-told_shown-clause-looked : goal.returns-in-Err-told_shown-clause-looked
returns-in-Err-told_shown-clause-looked g c = looked_memory g.D.Disk.meaning c.args.store.now c.fetch.new.self c.in-Ok.field-0 c.in-Ok.ensures.looked
