use Rattle.std.proofs.Common.{Ok}
use Rattle.store_core.proofs.Lookups.{looked_on, looked_err}
use Rattle.shrink_move.specs.declared.standing.Standing.{Standing}
use Rattle.shrink_move.proofs.Knowing.{knows_later}
use Rattle.shrink_move.proofs.filling.from_head.Goals as goal

pub returns-in-Ok-clause-looked : goal.returns-in-Ok-clause-looked
returns-in-Ok-clause-looked g c = looked_on g.D.Disk.meaning c.args.store.now c.stands.new.store c.into_body.new.store c.in-Ok.old c.into_body.result c.in-Ok.ensures.looked c.into_body.ensures.looked

pub returns-in-Ok-clause-says : goal.returns-in-Ok-clause-says
returns-in-Ok-clause-says g c = λ R o k h b.
    let later = knows_later g.D.Disk.meaning c.args.store.now c.stands.new.store R o c.args.ground.now (Ok c.in-Ok.old) c.in-Ok.ensures.looked k in
    c.into_body.ensures.says R o c.args.head.now later (c.in-Ok.ensures.says R o k h) b

pub returns-in-Ok-clause-sound : goal.returns-in-Ok-clause-sound
returns-in-Ok-clause-sound g c = λ R o k h b u.
    let later = knows_later g.D.Disk.meaning c.args.store.now c.stands.new.store R o c.args.ground.now (Ok c.in-Ok.old) c.in-Ok.ensures.looked k in
    c.into_body.ensures.sound R o later b (c.in-Ok.ensures.looked.cause.kept u)

pub returns-in-Err-clause-looked : goal.returns-in-Err-clause-looked
returns-in-Err-clause-looked g c = looked_err {A = Standing} g.D.Disk.meaning c.args.store.now c.stands.new.store c.in-Err.fault c.in-Err.ensures.looked

pub returns-in-Err-clause-sound : goal.returns-in-Err-clause-sound
returns-in-Err-clause-sound g c = λ R o k h b u. c.in-Err.ensures.sound R o k h u
