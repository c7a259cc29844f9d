use Rattle.std.proofs.Common.{Ok, ◌<◌, subst}
use Rattle.redo_model.specs.Model.{extents_of}
use Rattle.store_core.proofs.Lookups.{looked_on}
use Rattle.shrink_move.proofs.Knowing.{knows_later, segment_there}
use Rattle.shrink_move.proofs.Placing.{coded_position, numbered}
use Rattle.shrink_move.proofs.walking.coded_at.Goals as goal

pub returns-in-Ok-clause-looked : goal.returns-in-Ok-clause-looked
returns-in-Ok-clause-looked g c = looked_on g.D.Disk.meaning c.args.store.now c.extent_number.new.store c.coded_in.new.store c.in-Ok.extent c.coded_in.result c.in-Ok.ensures.looked c.coded_in.ensures.looked

pub returns-in-Ok-clause-says : goal.returns-in-Ok-clause-says
returns-in-Ok-clause-says g c = λ R o position k w.
    let M = g.D.Disk.meaning in
    let a = c.args.store.now in
    let n = numbered (extents_of R o) c.args.place.now.index c.in-Ok.extent (c.in-Ok.ensures.says R o k.holds k.table (segment_there M a R o c.args.ground.now k)) in
    coded_position M R o position c.in-Ok.extent a c.args.ground.now c.args.place.now c.coded_in.result k w n
    (c.coded_in.ensures.says R o c.args.place.now.index n.extent (knows_later M a c.extent_number.new.store R o c.args.ground.now (Ok c.in-Ok.extent) c.in-Ok.ensures.looked k) n.at n.number w.past w.within)

pub returns-in-Ok-clause-sound : goal.returns-in-Ok-clause-sound
returns-in-Ok-clause-sound g c = λ R o position k w u.
    let M = g.D.Disk.meaning in
    let a = c.args.store.now in
    let n = numbered (extents_of R o) c.args.place.now.index c.in-Ok.extent (c.in-Ok.ensures.says R o k.holds k.table (segment_there M a R o c.args.ground.now k)) in
    c.coded_in.ensures.sound R o c.args.place.now.index n.extent (knows_later M a c.extent_number.new.store R o c.args.ground.now (Ok c.in-Ok.extent) c.in-Ok.ensures.looked k) n.at n.number w.within (c.in-Ok.ensures.looked.cause.kept u)

pub returns-in-Err-clause-sound : goal.returns-in-Err-clause-sound
returns-in-Err-clause-sound g c = λ R o position k w u. c.in-Err.ensures.sound R o k.holds k.table (segment_there g.D.Disk.meaning c.args.store.now R o c.args.ground.now k) (subst (λ n. c.args.place.now.index < n) k.segment.extents w.there) u
