use Rattle.log_survival.proofs.Surviving.{looked_at, still_made}
use Rattle.log_survival.proofs.survival.looked.Goals as goal

pub returns : goal.returns
returns g c since shape groups acknowledged untouched began made so_far =
    let meaning = g.D.Disk.meaning in (
      looked_at meaning since shape groups acknowledged c.args.old.now c.args.new.now began made so_far untouched,
      still_made meaning since shape groups acknowledged (meaning.clock c.args.old.now) (meaning.clock c.args.new.now) untouched.leaves.later made,
    )
