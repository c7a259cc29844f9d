use Rattle.std.proofs.Common.{IfOk, Ok, subst}
use Rattle.seg_words.specs.Types.{Shape}
use Rattle.store_core.proofs.Lookups.{looked_on, looked_err}
use Rattle.shrink_move.specs.declared.ground.Ground.{Ground}
use Rattle.shrink_move.specs.Nexts.{NextIs}
use Rattle.shrink_move.proofs.Before.{cursor_there, shape_before}
use Rattle.shrink_move.proofs.shrink.Shrink.next.Goals as goal

pub returns-in-Ok-clause-looked : goal.returns-in-Ok-clause-looked
returns-in-Ok-clause-looked g c = looked_on g.D.Disk.meaning c.args.store.now c.read_ground.new.store c.next_from.new.store c.in-Ok.ground c.next_from.result c.in-Ok.ensures.looked c.next_from.ensures.looked

pub returns-in-Ok-clause-says : goal.returns-in-Ok-clause-says
returns-in-Ok-clause-says g c = λ R t i.
    let k = c.in-Ok.ensures.says R t i in
    subst (λ (sh : Shape). IfOk c.next_from.result (NextIs sh R c.args.self.now.obj c.args.self.now.skips c.args.self.now.cursor)) (shape_before g.D.Disk.meaning c.args.store.now c.read_ground.new.store R c.args.self.now.obj c.in-Ok.ground (Ok c.in-Ok.ground) c.in-Ok.ensures.looked k)
    (c.next_from.ensures.says R c.args.self.now.obj k)

pub returns-in-Ok-clause-sound : goal.returns-in-Ok-clause-sound
returns-in-Ok-clause-sound g c = λ R t i l u.
    let k = c.in-Ok.ensures.says R t i in
    c.next_from.ensures.sound R c.args.self.now.obj k (cursor_there c.args.store.now.shape c.in-Ok.ground.shape R c.args.self.now.obj c.args.self.now.cursor (shape_before g.D.Disk.meaning c.args.store.now c.read_ground.new.store R c.args.self.now.obj c.in-Ok.ground (Ok c.in-Ok.ground) c.in-Ok.ensures.looked k) l)

pub returns-in-Err-clause-looked : goal.returns-in-Err-clause-looked
returns-in-Err-clause-looked g c = looked_err {A = Ground} g.D.Disk.meaning c.args.store.now c.read_ground.new.store c.in-Err.fault c.in-Err.ensures.looked

pub returns-in-Err-clause-sound : goal.returns-in-Err-clause-sound
returns-in-Err-clause-sound g c = λ R t i l u. c.in-Err.ensures.sound R t i u

pub next_from-requires-clause-unspent : goal.next_from-requires-clause-unspent
next_from-requires-clause-unspent g c = c.in-Ok.ensures.looked.cause.kept c.in-Ok.ensures.looked.cause.goes_on
