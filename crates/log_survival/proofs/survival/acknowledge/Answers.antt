use Rattle.std.proofs.Common.{sym}
use Rattle.log_survival.proofs.Surviving.{acknowledged_now, all_made}
use Rattle.log_survival.specs.declared.acknowledged.Acknowledged.{Acknowledged}
use Rattle.log_survival.proofs.survival.acknowledge.Goals as goal

pub returns-clause-survives : goal.returns-clause-survives
returns-clause-survives g c since shape groups end acknowledged ready size made so_far =
    let meaning = g.D.Disk.meaning in
    let a : Acknowledged = record { moment = c.moment.result; groups = c.args.count } in (
      acknowledged_now meaning since shape groups acknowledged c.args.disk.now end a c.moment.ensures (sym size) ready so_far,
      all_made meaning since shape groups acknowledged c.args.disk.now end a c.moment.ensures (sym size) made,
    )
