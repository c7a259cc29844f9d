use Rattle.std.proofs.Common.{Bool}
use Rattle.store_core.proofs.Lookups.{looked_ok, looked_err, looked_same}
use Rattle.shrink_move.proofs.Nexts.{body_none, body_yes, body_no}
use Rattle.shrink_move.proofs.next.body_below.Goals as goal

pub returns-in-None-clause-looked : goal.returns-in-None-clause-looked
returns-in-None-clause-looked g c = looked_same g.D.Disk.meaning c.args.store.now _ c.requires.unspent

pub returns-in-None-clause-says : goal.returns-in-None-clause-says
returns-in-None-clause-says g c = λ R o k. body_none c.args.ground.now.shape R o c.args.place c.args.body c.in-None.is

pub returns-in-Ok-true-clause-looked : goal.returns-in-Ok-true-clause-looked
returns-in-Ok-true-clause-looked g c = looked_ok g.D.Disk.meaning c.args.store.now c.stands_below.new.store c.in-Ok-true.field-0 _ c.in-Ok-true.ensures.looked

pub returns-in-Ok-true-clause-says : goal.returns-in-Ok-true-clause-says
returns-in-Ok-true-clause-says g c = λ R o k. body_yes c.args.ground.now.shape R o c.args.place c.args.body c.in-Some.at c.in-Ok-true.field-0 c.in-Some.is c.in-Ok-true.field-0-test (c.in-Ok-true.ensures.says R o k)

pub returns-in-Ok-false-clause-looked : goal.returns-in-Ok-false-clause-looked
returns-in-Ok-false-clause-looked g c = looked_ok g.D.Disk.meaning c.args.store.now c.stands_below.new.store c.in-Ok-false.field-0 _ c.in-Ok-false.ensures.looked

pub returns-in-Ok-false-clause-says : goal.returns-in-Ok-false-clause-says
returns-in-Ok-false-clause-says g c = λ R o k. body_no c.args.ground.now.shape R o c.args.place c.args.body c.in-Some.at c.in-Ok-false.field-0 c.in-Some.is c.in-Ok-false.field-0-test (c.in-Ok-false.ensures.says R o k)

pub returns-in-Err-clause-looked : goal.returns-in-Err-clause-looked
returns-in-Err-clause-looked g c = looked_err {A = Bool} g.D.Disk.meaning c.args.store.now c.stands_below.new.store c.in-Err.fault c.in-Err.ensures.looked

pub returns-in-Err-clause-sound : goal.returns-in-Err-clause-sound
returns-in-Err-clause-sound g c = λ R o k l. c.in-Err.ensures.sound R o k l
