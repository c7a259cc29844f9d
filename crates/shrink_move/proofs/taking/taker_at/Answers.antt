use Rattle.std.proofs.Common.{Ok}
use Rattle.store_core.proofs.Lookups.{looked_on, looked_err}
use Rattle.shrink_move.specs.declared.walking.Coded.{Coded}
use Rattle.shrink_move.proofs.Knowing.{knows_later}
use Rattle.shrink_move.proofs.taking.taker_at.Goals as goal

pub returns-in-Ok-clause-looked : goal.returns-in-Ok-clause-looked
returns-in-Ok-clause-looked g c = looked_on g.D.Disk.meaning c.args.store.now c.coded_position.new.store c.taker_in.new.store c.in-Ok.block c.taker_in.result c.in-Ok.ensures.looked c.taker_in.ensures.looked

pub returns-in-Ok-clause-says : goal.returns-in-Ok-clause-says
returns-in-Ok-clause-says g c = λ R o k. c.taker_in.ensures.says R o c.args.position (knows_later g.D.Disk.meaning c.args.store.now c.coded_position.new.store R o c.args.ground.now (Ok c.in-Ok.block) c.in-Ok.ensures.looked k) (c.in-Ok.ensures.says R o k)

pub returns-in-Ok-clause-sound : goal.returns-in-Ok-clause-sound
returns-in-Ok-clause-sound g c = λ R o k l u. c.taker_in.ensures.sound R o c.args.position (knows_later g.D.Disk.meaning c.args.store.now c.coded_position.new.store R o c.args.ground.now (Ok c.in-Ok.block) c.in-Ok.ensures.looked k) (c.in-Ok.ensures.says R o k)

pub returns-in-Err-clause-looked : goal.returns-in-Err-clause-looked
returns-in-Err-clause-looked g c = looked_err {A = Coded} g.D.Disk.meaning c.args.store.now c.coded_position.new.store c.in-Err.fault c.in-Err.ensures.looked

pub returns-in-Err-clause-sound : goal.returns-in-Err-clause-sound
returns-in-Err-clause-sound g c = λ R o k l u. c.in-Err.ensures.sound R o k l u

pub taker_in-requires : goal.taker_in-requires
taker_in-requires g c = record { unspent = c.in-Ok.ensures.looked.cause.kept c.in-Ok.ensures.looked.cause.goes_on }
