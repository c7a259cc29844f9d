use Rattle.std.proofs.Common.{subst}
use Rattle.std.specs.Prelude.{IfOk}
use Rattle.seg_words.specs.Types.{Shape}
use Rattle.store_core.proofs.Lookups.{looked_on}
use Rattle.row_change.specs.Looking.{BornTold}
use Rattle.row_change.proofs.Searching.{search_on}
use Rattle.row_change.proofs.born.incarnation_of.Goals as goal

pub returns-in-Ok-clause-looked : goal.returns-in-Ok-clause-looked
returns-in-Ok-clause-looked g c = looked_on g.D.Disk.meaning c.args.store.now c.search_for.new.store c.incarnation_in.new.store c.in-Ok.search c.incarnation_in.result c.in-Ok.ensures.looked c.incarnation_in.ensures.looked

pub returns-in-Ok-clause-says : goal.returns-in-Ok-clause-says
returns-in-Ok-clause-says g c = λ R t i.
    let q = c.in-Ok.ensures.says R t i tt in
    subst (λ (z : Shape). IfOk c.incarnation_in.result (BornTold z R c.args.obj c.args.dba)) q.search.shape_is
    (c.incarnation_in.ensures.says R c.args.obj (c.in-Ok.ensures.looked.stays_true R t) (search_on g.D.Disk.meaning c.args.store.now c.search_for.new.store _ R c.args.obj c.in-Ok.search c.in-Ok.ensures.looked q.search))

pub returns-in-Ok-clause-sound : goal.returns-in-Ok-clause-sound
returns-in-Ok-clause-sound g c = λ R t i n.
    let q = c.in-Ok.ensures.says R t i tt in
    c.incarnation_in.ensures.sound R c.args.obj (c.in-Ok.ensures.looked.stays_true R t) (search_on g.D.Disk.meaning c.args.store.now c.search_for.new.store _ R c.args.obj c.in-Ok.search c.in-Ok.ensures.looked q.search) (c.in-Ok.ensures.looked.cause.kept n)

pub returns-in-Err-clause-sound : goal.returns-in-Err-clause-sound
returns-in-Err-clause-sound g c = λ R t i n. c.in-Err.ensures.sound R t i n
