use Rattle.shrink_move.proofs.Placing.{place_some, place_none}
use Rattle.shrink_move.proofs.walking.coded_position.Goals as goal

pub returns-in-Some-clause-says : goal.returns-in-Some-clause-says
returns-in-Some-clause-says g c = λ R o k. c.coded_at.ensures.says R o c.args.position k (place_some c.args.ground.now.shape c.args.ground.now.segment.extents c.args.position c.place_at.result c.in-Some.place c.in-Some.is c.place_at.ensures)

pub returns-in-Some-clause-sound : goal.returns-in-Some-clause-sound
returns-in-Some-clause-sound g c = λ R o k l u. c.coded_at.ensures.sound R o c.args.position k (place_some c.args.ground.now.shape c.args.ground.now.segment.extents c.args.position c.place_at.result c.in-Some.place c.in-Some.is c.place_at.ensures) u

pub returns-in-None-clause-sound : goal.returns-in-None-clause-sound
returns-in-None-clause-sound g c = λ R o k l u. absurd (place_none R o c.args.position c.args.ground.now c.place_at.result k.segment.extents l c.in-None.is c.place_at.ensures)
