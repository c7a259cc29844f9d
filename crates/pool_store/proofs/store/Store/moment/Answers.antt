use Rattle.std.proofs.Common.{rules, ◌≡◌, ℕ, subst}
use Rattle.pool_store.specs.Survives.{Rises}
use Rattle.pool_store.proofs.Surviving.{survives_needed}
use Rattle.pool_store.proofs.store.Store.moment.Goals as goal

pub returns-clause-needed : goal.returns-clause-needed
returns-clause-needed g c = λ since needed rising R t unspent left rises.
    let e : c.moment.result ≡ g.D.Disk.meaning.clock c.args.self.now.disk = search rules in
    survives_needed g.D.Disk.meaning since needed R c.args.self.now t unspent left rising (subst (λ (n : ℕ). Rises needed rising n c.args.self.now.log.stable) e rises)
