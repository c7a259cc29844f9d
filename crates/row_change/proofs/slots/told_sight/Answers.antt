use Rattle.std.proofs.Common.{sym, subst}
use Rattle.seg_words.specs.Types.{Slot}
use Rattle.version_read.specs.Walking.{SeesRow, txn_or_none}
use Rattle.row_change.specs.Locating.{HasSight}
use Rattle.row_change.proofs.Searching.{told_sees}
use Rattle.row_change.proofs.Sights.{has_sight, same_image}
use Rattle.row_change.proofs.slots.told_sight.Goals as goal

pub returns-in-None-clause-right : goal.returns-in-None-clause-right
returns-in-None-clause-right g c = λ R o w h v. let z = c.in-None.ensures c.args.search.now.shape R v.image w v.stands in absurd cc

pub returns-in-Some-clause-says : goal.returns-in-Some-clause-says
returns-in-Some-clause-says g c = λ R o w h v.
    let same = same_image c.in-Some.image.now v.image (c.in-Some.ensures c.args.search.now.shape R v.image w v.stands) in
    told_sees c.args.store.now.shape R o c.args.search.now c.args.at c.in-Some.image.now c.sight_of.result h (subst (λ (i : Slot). SeesRow R c.args.at.dba c.args.at.slot c.args.search.now.start (txn_or_none c.args.search.now.own) i) (sym same) v.sees) c.sight_of.ensures.says

pub returns-in-Some-clause-right : goal.returns-in-Some-clause-right
returns-in-Some-clause-right g c = λ R o w h v.
    let same = same_image c.in-Some.image.now v.image (c.in-Some.ensures c.args.search.now.shape R v.image w v.stands) in
    c.sight_of.ensures.right (subst HasSight (sym same) (has_sight c.args.store.now.shape R o c.args.search.now c.args.at.dba c.args.at.slot v.image h v.sees))
