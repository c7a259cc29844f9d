use Rattle.std.proofs.Common.{Ok, Err, refl}
use Rattle.store_core.proofs.Lookups.{looked_on, looked_err}
use Rattle.store_core.proofs.Additions.{tried_on, tried_none}
use Rattle.shrink_move.specs.declared.next.Next.{Next}
use Rattle.shrink_move.specs.Starts.{store_part}
use Rattle.shrink_move.proofs.Before.{cursor_there, shape_before}
use Rattle.shrink_move.proofs.Carried.{look_failed}
use Rattle.shrink_move.proofs.Knowing.{knows_later}
use Rattle.shrink_move.proofs.Steps.{step_in, step_on}
use Rattle.shrink_move.proofs.shrink.Shrink.step.Goals as goal

pub returns-in-Err-clause-steps : goal.returns-in-Err-clause-steps
returns-in-Err-clause-steps g c = λ R t m. record { failed = look_failed g.D.Disk.meaning R c.args.store.now c.read_ground.new.store c.in-Err.fault t c.in-Err.ensures.looked (λ u. c.in-Err.ensures.sound R t m.table u); shrink_is = refl }

pub returns-in-Err-clause-tried : goal.returns-in-Err-clause-tried
returns-in-Err-clause-tried g c = tried_none g.D.Disk.meaning c.args.store.now c.read_ground.new.store c.in-Err.fault c.in-Err.ensures.looked

pub returns-in-Ok-next_from-clause-steps : goal.returns-in-Ok-next_from-clause-steps
returns-in-Ok-next_from-clause-steps g c = λ R t m.
    let M = g.D.Disk.meaning in
    let a = c.args.store.now in
    let b = c.read_ground.new.store in
    let d = c.next_from.new.store in
    let e = c.take.new.store in
    let x = c.args.self.now in
    let k = c.in-Ok.ensures.says R t m.table in
    let both = looked_on M a b d c.in-Ok.ground (Ok c.in-Ok-next_from.next) c.in-Ok.ensures.looked c.in-Ok-next_from.ensures.looked in
    step_in M a.shape c.in-Ok.ground.shape R a e x c.take.new.self c.take.result (shape_before M a b R x.obj c.in-Ok.ground (Ok c.in-Ok.ground) c.in-Ok.ensures.looked k)
    (step_on M c.in-Ok.ground.shape R a d e c.in-Ok-next_from.next x c.take.new.self c.take.result t both
    (c.take.ensures.steps R (knows_later M b d R x.obj c.in-Ok.ground (Ok c.in-Ok-next_from.next) c.in-Ok-next_from.ensures.looked k) m.movement (c.in-Ok-next_from.ensures.says R x.obj k)))

pub returns-in-Ok-next_from-clause-tried : goal.returns-in-Ok-next_from-clause-tried
returns-in-Ok-next_from-clause-tried g c =
    let M = g.D.Disk.meaning in
    let a = c.args.store.now in
    let b = c.read_ground.new.store in
    let d = c.next_from.new.store in
    tried_on M a d c.take.new.store c.in-Ok-next_from.next (store_part c.take.result) (looked_on M a b d c.in-Ok.ground (Ok c.in-Ok-next_from.next) c.in-Ok.ensures.looked c.in-Ok-next_from.ensures.looked) c.take.ensures.tried

pub returns-clause-steps : goal.returns-clause-steps
returns-clause-steps g c = λ R t m.
    let M = g.D.Disk.meaning in
    let a = c.args.store.now in
    let b = c.read_ground.new.store in
    let d = c.next_from.new.store in
    let x = c.args.self.now in
    let k = c.in-Ok.ensures.says R t m.table in
    let there = cursor_there a.shape c.in-Ok.ground.shape R x.obj x.cursor (shape_before M a b R x.obj c.in-Ok.ground (Ok c.in-Ok.ground) c.in-Ok.ensures.looked k) m.there in
    let both = looked_on M a b d c.in-Ok.ground (Err c.in-Err-next_from.fault) c.in-Ok.ensures.looked c.in-Err-next_from.ensures.looked in
    record { failed = look_failed {A = Next} M R a d c.in-Err-next_from.fault t both (λ u. c.in-Err-next_from.ensures.sound R x.obj k there); shrink_is = refl }

pub returns-clause-tried : goal.returns-clause-tried
returns-clause-tried g c =
    let M = g.D.Disk.meaning in
    let a = c.args.store.now in
    let b = c.read_ground.new.store in
    let d = c.next_from.new.store in
    tried_none {A = Next} M a d c.in-Err-next_from.fault (looked_on M a b d c.in-Ok.ground (Err c.in-Err-next_from.fault) c.in-Ok.ensures.looked c.in-Err-next_from.ensures.looked)

pub next_from-requires-clause-unspent : goal.next_from-requires-clause-unspent
next_from-requires-clause-unspent g c = c.in-Ok.ensures.looked.cause.kept c.in-Ok.ensures.looked.cause.goes_on

pub take-requires : goal.take-requires
take-requires g c = record { unspent = c.in-Ok-next_from.ensures.looked.cause.kept c.in-Ok-next_from.ensures.looked.cause.goes_on }
