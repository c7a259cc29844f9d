use Rattle.std.proofs.Common.{[], sym, subst}
use Rattle.log_survival.specs.Survives.{Survives}
use Rattle.log_survival.proofs.Surviving.{begun, none_made}
use Rattle.log_survival.proofs.survival.begin.Goals as goal

pub returns-clause-survives : goal.returns-clause-survives
returns-clause-survives g c shape groups end ready =
    let meaning = g.D.Disk.meaning in
    (subst (λ n. Survives meaning n shape groups [] c.args.disk.now) (sym c.moment.ensures) (begun meaning c.args.disk.now shape groups end ready), none_made meaning groups c.moment.result)
