use Rattle.row_change.specs.Spots.{state_of}
use Rattle.row_change.proofs.Given.{ring_there, state_given, state_is}
use Rattle.row_change.proofs.spot.undo_state.Goals as goal

pub returns-in-Ok-clause-says : goal.returns-in-Ok-clause-says
returns-in-Ok-clause-says g c = λ R t k i. state_is c.args.store.now.shape R c.args.table.now c.args.block c.in-Ok.state t.list.within t.lawful k i (c.in-Ok.ensures.says R t)

pub returns-in-Err-clause-sound : goal.returns-in-Err-clause-sound
returns-in-Err-clause-sound g c = λ R t k i n. c.in-Err.ensures.sound R (state_of R c.args.block) t n (ring_there c.args.store.now.shape c.args.block t.list.within i) (state_given c.args.store.now.shape R c.args.table.now c.args.block t.list.within t.lawful k i)
