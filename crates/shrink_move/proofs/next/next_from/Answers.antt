use Rattle.std.proofs.Common.{Ok, Option}
use Rattle.store_core.proofs.Lookups.{looked_ok, looked_on, looked_err}
use Rattle.shrink_move.specs.declared.come.Come.{Come}
use Rattle.shrink_move.proofs.Knowing.{knows_later}
use Rattle.shrink_move.proofs.Nexts.{at_bottom, found_down}
use Rattle.shrink_move.proofs.next.next_from.Goals as goal

pub returns-in-Ok-Some-clause-looked : goal.returns-in-Ok-Some-clause-looked
returns-in-Ok-Some-clause-looked g c = looked_on g.D.Disk.meaning c.args.store.now c.come_down.new.store c.next_at.new.store c.in-Ok-Some.field-0 c.next_at.result c.in-Ok-Some.ensures.looked c.next_at.ensures.looked

pub returns-in-Ok-Some-clause-says : goal.returns-in-Ok-Some-clause-says
returns-in-Ok-Some-clause-says g c = λ R o k. c.next_at.ensures.says R o c.args.cursor c.args.skips.now (knows_later g.D.Disk.meaning c.args.store.now c.come_down.new.store R o c.args.ground.now (Ok c.in-Ok-Some.field-0) c.in-Ok-Some.ensures.looked k)
    (found_down c.args.ground.now.shape R o c.args.skips.now c.args.cursor c.in-Ok-Some.field-0 c.in-Ok-Some.come c.in-Ok-Some.field-0-is (c.in-Ok-Some.ensures.says R o k))

pub returns-in-Ok-Some-clause-sound : goal.returns-in-Ok-Some-clause-sound
returns-in-Ok-Some-clause-sound g c = λ R o k l. c.next_at.ensures.sound R o c.args.cursor c.args.skips.now (knows_later g.D.Disk.meaning c.args.store.now c.come_down.new.store R o c.args.ground.now (Ok c.in-Ok-Some.field-0) c.in-Ok-Some.ensures.looked k)
    (found_down c.args.ground.now.shape R o c.args.skips.now c.args.cursor c.in-Ok-Some.field-0 c.in-Ok-Some.come c.in-Ok-Some.field-0-is (c.in-Ok-Some.ensures.says R o k)) (c.in-Ok-Some.ensures.looked.cause.kept c.requires.unspent)

pub returns-in-Ok-None-clause-looked : goal.returns-in-Ok-None-clause-looked
returns-in-Ok-None-clause-looked g c = looked_ok g.D.Disk.meaning c.args.store.now c.come_down.new.store c.in-Ok-None.field-0 _ c.in-Ok-None.ensures.looked

pub returns-in-Ok-None-clause-says : goal.returns-in-Ok-None-clause-says
returns-in-Ok-None-clause-says g c = λ R o k. at_bottom c.args.ground.now.shape R o c.args.skips.now c.args.cursor c.in-Ok-None.field-0 c.in-Ok-None.field-0-is (c.in-Ok-None.ensures.says R o k)

pub returns-in-Err-clause-looked : goal.returns-in-Err-clause-looked
returns-in-Err-clause-looked g c = looked_err {A = Option Come} g.D.Disk.meaning c.args.store.now c.come_down.new.store c.in-Err.fault c.in-Err.ensures.looked

pub returns-in-Err-clause-sound : goal.returns-in-Err-clause-sound
returns-in-Err-clause-sound g c = λ R o k l. c.in-Err.ensures.sound R o k l
