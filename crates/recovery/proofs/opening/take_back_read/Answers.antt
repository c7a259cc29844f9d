use Rattle.std.proofs.Common.{rules}
use Rattle.recovery.proofs.TakenBack.{taken_ok, taken_err}
use Rattle.recovery.proofs.opening.take_back_read.Goals as goal

pub returns-in-Ok : goal.returns-in-Ok
returns-in-Ok g c =
    let taken = c.take_back_active-taken in
    taken_ok g.D.Disk.meaning c.args.disk.now _ _ c.args.loaded c.over-store.result taken.new.store c.over-store.ensures (search rules) c.into_parts-disk.result.1 c.into_parts-disk.ensures.same c.in-Ok.ensures.keeps c.in-Ok.ensures.cause c.in-Ok.ensures.comes
    c.in-Ok.ensures.all_stable

pub returns-in-Err : goal.returns-in-Err
returns-in-Err g c =
    let taken = c.take_back_active-taken in
    taken_err g.D.Disk.meaning c.args.disk.now _ _ c.args.loaded c.over-store.result taken.new.store c.over-store.ensures (search rules) c.in-Err.fault c.requires c.in-Err.ensures.keeps c.in-Err.ensures.cause c.in-Err.ensures.comes
