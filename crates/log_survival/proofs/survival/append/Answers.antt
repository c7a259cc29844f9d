use Rattle.std.proofs.Common.{[], ◌∷◌}
use Rattle.log_survival.proofs.Surviving.{appended, made_later}
use Rattle.log_survival.proofs.survival.append.Goals as goal

pub returns-clause-survives : goal.returns-clause-survives
returns-clause-survives g c since shape groups acknowledged ready made so_far =
    let meaning = g.D.Disk.meaning in
    let d0 = c.args.disk.now in
    let d1 = c.append_group.new.disk in
    let leaves = c.append_group.ensures.any_moment shape groups ready in
    (appended meaning since shape groups acknowledged d0 d1 c.args.payload.now made so_far leaves, made_later meaning since shape groups acknowledged (meaning.clock d0) (meaning.clock d1) (c.args.payload.now ∷ []) leaves.later made)
