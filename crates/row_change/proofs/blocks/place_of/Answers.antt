use Rattle.row_change.proofs.Positions.{place_is}
use Rattle.row_change.proofs.blocks.place_of.Goals as goal

pub returns-in-Ok-clause-says : goal.returns-in-Ok-clause-says
returns-in-Ok-clause-says g c = λ R o n position b t h s v. place_is c.args.store.now.shape R o n c.args.search.now c.args.here.now position b c.in-Ok.born c.args.sight h s v (c.in-Ok.ensures.says R o s.extent t h s.at)

pub returns-in-Err-clause-sound : goal.returns-in-Err-clause-sound
returns-in-Err-clause-sound g c = λ R o position b t h s n. c.in-Err.ensures.sound R o s.extent t h s.at n
