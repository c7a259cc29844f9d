use Rattle.std.proofs.Common.{ℕ, Ok, arith}
use Rattle.store_core.proofs.Lookups.{looked_on, looked_err, looked_same}
use Rattle.lowering.proofs.Knowing.{knows_later}
use Rattle.lowering.proofs.Levels.{group_past, start_there}
use Rattle.lowering.proofs.Places.{some_blocks}
use Rattle.lowering.proofs.groups.group_at.Goals as goal

pub returns-then-start-kept-clause-looked : goal.returns-then-start-kept-clause-looked
returns-then-start-kept-clause-looked g c = looked_same g.D.Disk.meaning c.args.store.now _ c.requires.unspent

pub returns-then-start-kept-clause-says : goal.returns-then-start-kept-clause-says
returns-then-start-kept-clause-says g c = λ R o k l s. group_past c.args.ground.now.shape R o c.args.kept c.args.start c.if-start-kept.true

pub returns-in-Ok-clause-looked : goal.returns-in-Ok-clause-looked
returns-in-Ok-clause-looked g c = looked_on g.D.Disk.meaning c.args.store.now c.block_of.new.store c.group_of.new.store c.in-Ok.dba c.group_of.result c.in-Ok.ensures.looked c.group_of.ensures.looked

pub returns-in-Ok-clause-says : goal.returns-in-Ok-clause-says
returns-in-Ok-clause-says g c = λ R o k l s. c.group_of.ensures.says R o (knows_later g.D.Disk.meaning c.args.store.now c.block_of.new.store R o c.args.ground.now (Ok c.in-Ok.dba) c.in-Ok.ensures.looked k) l s (c.in-Ok.ensures.says R o k)

pub returns-in-Ok-clause-sound : goal.returns-in-Ok-clause-sound
returns-in-Ok-clause-sound g c = λ R o k l s. c.group_of.ensures.sound R o (knows_later g.D.Disk.meaning c.args.store.now c.block_of.new.store R o c.args.ground.now (Ok c.in-Ok.dba) c.in-Ok.ensures.looked k) l s (c.in-Ok.ensures.says R o k) (c.in-Ok.ensures.looked.cause.kept c.in-Ok.ensures.looked.cause.goes_on)

pub returns-in-Err-clause-looked : goal.returns-in-Err-clause-looked
returns-in-Err-clause-looked g c = looked_err {A = ℕ} g.D.Disk.meaning c.args.store.now c.block_of.new.store c.in-Err.fault c.in-Err.ensures.looked

pub returns-in-Err-clause-sound : goal.returns-in-Err-clause-sound
returns-in-Err-clause-sound g c = λ R o k l s. c.in-Err.ensures.sound R o k (start_there g.D.Disk.meaning c.args.store.now R o c.args.kept c.args.start c.args.ground.now k c.if-start-kept.false l) (some_blocks c.args.ground.now.shape 1 c.requires.shape (omega arith)) c.requires.unspent
