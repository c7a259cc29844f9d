use Rattle.store_core.proofs.Lookups.{looked_same}
use Rattle.shrink_move.proofs.Nexts.{can_go, skips_row}
use Rattle.shrink_move.proofs.next.next_of_row.Goals as goal

pub returns-in-Some-clause-looked : goal.returns-in-Some-clause-looked
returns-in-Some-clause-looked g c = looked_same g.D.Disk.meaning c.args.store.now _ c.requires.unspent

pub returns-in-Some-clause-says : goal.returns-in-Some-clause-says
returns-in-Some-clause-says g c = λ R o cursor skips k h. skips_row g.D.Disk.meaning c.args.store.now R o c.args.ground.now skips cursor c.in-Some.txn c.args.come.now c.args.body c.args.row.now k h c.in-Some.ensures.active

pub returns-in-None-clause-says : goal.returns-in-None-clause-says
returns-in-None-clause-says g c = λ R o cursor skips k h. c.next_free.ensures.says R o cursor skips k (can_go g.D.Disk.meaning c.args.store.now R o c.args.ground.now skips cursor c.args.come.now c.args.body c.args.row.now k h c.in-None.ensures.over) h.body_is

pub returns-in-None-clause-sound : goal.returns-in-None-clause-sound
returns-in-None-clause-sound g c = λ R o cursor skips k h. c.next_free.ensures.sound R o cursor skips k (can_go g.D.Disk.meaning c.args.store.now R o c.args.ground.now skips cursor c.args.come.now c.args.body c.args.row.now k h c.in-None.ensures.over)
