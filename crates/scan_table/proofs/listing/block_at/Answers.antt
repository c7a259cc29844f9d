use Rattle.std.proofs.Common.{sym, true≢false}
use Rattle.store_core.proofs.Lookups.{looked_ok, refused_after}
use Rattle.redo_model.specs.Model.{extents_of}
use Rattle.scan_table.proofs.Locating.{at_within, found_told, segment_given, whole_told}
use Rattle.scan_table.proofs.listing.block_at.Goals as goal

pub returns-in-Err-clause-sound : goal.returns-in-Err-clause-sound
returns-in-Err-clause-sound g c = λ R o e t h at l n. c.in-Err.ensures.sound R o t h.there (segment_given c.args.store.now.shape R o c.args.listing.now h) (at_within (extents_of R o) c.args.place.now.index e at) n

pub returns-in-None-clause-looked : goal.returns-in-None-clause-looked
returns-in-None-clause-looked g c = refused_after g.D.Disk.meaning c.args.store.now c.extent_number.new.store c.refuse.new.self c.in-Ok.extent c.refuse.result c.in-Ok.ensures.looked c.refuse.ensures.looked

pub returns-in-None-clause-sound : goal.returns-in-None-clause-sound
returns-in-None-clause-sound g c = λ R o e t h at l n.
    absurd (true≢false (sym (c.in-None.ensures.right (whole_told c.args.store.now.shape R o c.args.place.now.index c.in-Ok.extent c.args.listing.now h (c.in-Ok.ensures.says R o t h.there (segment_given c.args.store.now.shape R o c.args.listing.now h))) l)))

pub returns-in-Some-clause-looked : goal.returns-in-Some-clause-looked
returns-in-Some-clause-looked g c = looked_ok g.D.Disk.meaning c.args.store.now c.extent_number.new.store c.in-Ok.extent _ c.in-Ok.ensures.looked

pub returns-in-Some-clause-says : goal.returns-in-Some-clause-says
returns-in-Some-clause-says g c = λ R o e t h at. found_told c.args.listing.now.shape R o c.args.place.now.index c.args.place.now.nth c.in-Ok.extent e c.in-Some.found (c.in-Ok.ensures.says R o t h.there (segment_given c.args.store.now.shape R o c.args.listing.now h)) at c.in-Some.ensures.says
