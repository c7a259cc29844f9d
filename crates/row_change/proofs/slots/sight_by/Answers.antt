use Rattle.std.proofs.Common.{subst}
use Rattle.row_change.specs.Locating.{Shows}
use Rattle.store_core.proofs.Lookups.{looked_same}
use Rattle.row_change.proofs.slots.sight_by.Goals as goal

pub returns-in-Here-clause-looked : goal.returns-in-Here-clause-looked
returns-in-Here-clause-looked g c = looked_same g.D.Disk.meaning c.args.store.now c.in-Here.sight c.requires

pub returns-in-Here-clause-says : goal.returns-in-Here-clause-says
returns-in-Here-clause-says g c = λ R o t h s. subst (Shows R c.args.search.now c.args.at) c.in-Here.is s

pub returns-in-Below-clause-says : goal.returns-in-Below-clause-says
returns-in-Below-clause-says g c = λ R o t h s. c.follow_down.ensures.says R o t h (subst (Shows R c.args.search.now c.args.at) c.in-Below.is s)

pub returns-in-Below-clause-sound : goal.returns-in-Below-clause-sound
returns-in-Below-clause-sound g c = λ R o t h s. c.follow_down.ensures.sound R o t h (subst (Shows R c.args.search.now c.args.at) c.in-Below.is s)
