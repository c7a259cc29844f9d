use Rattle.store_core.proofs.Lookups.{looked_on}
use Rattle.row_change.proofs.Positions.{locates_told}
use Rattle.row_change.proofs.Searching.{search_on}
use Rattle.row_change.proofs.blocks.locate.Goals as goal

pub returns-in-Ok-clause-looked : goal.returns-in-Ok-clause-looked
returns-in-Ok-clause-looked g c = looked_on g.D.Disk.meaning c.args.store.now c.search_for.new.store c.find.new.store c.in-Ok.search c.find.result c.in-Ok.ensures.looked c.find.ensures.looked

pub returns-in-Ok-clause-says : goal.returns-in-Ok-clause-says
returns-in-Ok-clause-says g c = λ R t i w.
    let q = c.in-Ok.ensures.says R t i w in
    locates_told c.args.store.now.shape R c.args.obj c.args.row c.args.own c.in-Ok.search c.find.result q (c.find.ensures.says R c.args.obj (c.in-Ok.ensures.looked.stays_true R t) (search_on g.D.Disk.meaning c.args.store.now c.search_for.new.store _ R c.args.obj c.in-Ok.search c.in-Ok.ensures.looked q.search))

pub returns-in-Ok-clause-sound : goal.returns-in-Ok-clause-sound
returns-in-Ok-clause-sound g c = λ R t i w n.
    let q = c.in-Ok.ensures.says R t i w in
    c.find.ensures.sound R c.args.obj (c.in-Ok.ensures.looked.stays_true R t) (search_on g.D.Disk.meaning c.args.store.now c.search_for.new.store _ R c.args.obj c.in-Ok.search c.in-Ok.ensures.looked q.search)

pub returns-in-Err-clause-sound : goal.returns-in-Err-clause-sound
returns-in-Err-clause-sound g c = λ R t i w n. c.in-Err.ensures.sound R t i n
