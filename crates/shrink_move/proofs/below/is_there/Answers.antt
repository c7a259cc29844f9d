use Rattle.store_core.proofs.Lookups.{looked_ok, looked_err}
use Rattle.shrink_move.specs.declared.walking.Coded.{Coded}
use Rattle.shrink_move.proofs.Takers.{there_told}
use Rattle.shrink_move.proofs.below.is_there.Goals as goal

pub returns-in-Ok-clause-looked : goal.returns-in-Ok-clause-looked
returns-in-Ok-clause-looked g c = looked_ok g.D.Disk.meaning c.args.store.now c.coded_position.new.store c.in-Ok.block _ c.in-Ok.ensures.looked

pub returns-in-Ok-clause-says : goal.returns-in-Ok-clause-says
returns-in-Ok-clause-says g c = λ R o k. there_told c.args.ground.now.shape R o c.args.position c.args.dba.now c.in-Ok.block c.is_block.result c.is_block.ensures (c.in-Ok.ensures.says R o k)

pub returns-in-Err-clause-looked : goal.returns-in-Err-clause-looked
returns-in-Err-clause-looked g c = looked_err {A = Coded} g.D.Disk.meaning c.args.store.now c.coded_position.new.store c.in-Err.fault c.in-Err.ensures.looked

pub returns-in-Err-clause-sound : goal.returns-in-Err-clause-sound
returns-in-Err-clause-sound g c = λ R o k l u. c.in-Err.ensures.sound R o k l u
