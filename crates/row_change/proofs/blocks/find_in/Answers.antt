use Rattle.store_core.proofs.Lookups.{looked_on, looked_ok, looked_err}
use Rattle.std.proofs.Common.{subst}
use Rattle.std.specs.Prelude.{Ok, Err}
use Rattle.row_change.specs.Locating.{SeesIn}
use Rattle.row_change.proofs.Searching.{search_on}
use Rattle.row_change.proofs.blocks.find_in.Goals as goal

pub returns-in-Err-clause-sound : goal.returns-in-Err-clause-sound
returns-in-Err-clause-sound g c = λ R o position t h s n. c.in-Err.ensures.sound R o position t h s.block n

pub returns-in-Ok-None-clause-says : goal.returns-in-Ok-None-clause-says
returns-in-Ok-None-clause-says g c = λ R o position t h s. subst (SeesIn R c.args.search.now c.args.row c.args.dba) c.in-Ok-None.field-0-is (c.in-Ok-None.ensures.says R o position t h s.block)

pub returns-in-Ok-clause-looked : goal.returns-in-Ok-clause-looked
returns-in-Ok-clause-looked g c = looked_ok g.D.Disk.meaning c.args.store.now c.place_of.new.store c.in-Ok.place _ (looked_on g.D.Disk.meaning c.args.store.now c.look_in_block.new.store c.place_of.new.store _ (Ok c.in-Ok.place) c.in-Ok-Some.ensures.looked c.in-Ok.ensures.looked)

pub returns-in-Ok-clause-says : goal.returns-in-Ok-clause-says
returns-in-Ok-clause-says g c = λ R o position t h s.
    let l = c.in-Ok-Some.ensures.looked in
    c.in-Ok.ensures.says R o c.args.row position c.args.dba (l.stays_true R t) (search_on g.D.Disk.meaning c.args.store.now c.look_in_block.new.store _ R o c.args.search.now l h) s (subst (SeesIn R c.args.search.now c.args.row c.args.dba) c.in-Ok-Some.field-0-is (c.in-Ok-Some.ensures.says R o position t h s.block))

pub returns-in-Err-place_of-clause-looked : goal.returns-in-Err-place_of-clause-looked
returns-in-Err-place_of-clause-looked g c = looked_err g.D.Disk.meaning c.args.store.now c.place_of.new.store c.in-Err-place_of.fault (looked_on g.D.Disk.meaning c.args.store.now c.look_in_block.new.store c.place_of.new.store _ (Err c.in-Err-place_of.fault) c.in-Ok-Some.ensures.looked c.in-Err-place_of.ensures.looked)

pub returns-in-Err-place_of-clause-sound : goal.returns-in-Err-place_of-clause-sound
returns-in-Err-place_of-clause-sound g c = λ R o position t h s n.
    let l = c.in-Ok-Some.ensures.looked in
    c.in-Err-place_of.ensures.sound R o position c.args.dba (l.stays_true R t) (search_on g.D.Disk.meaning c.args.store.now c.look_in_block.new.store _ R o c.args.search.now l h) s (l.cause.kept n)
