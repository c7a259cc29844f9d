use Rattle.std.proofs.Common.{ℕ, sym, subst, length}
use Rattle.store_core.specs.Store.{HasList, IsTrue}
use Rattle.store_core.specs.Survives.{Survives}
use Rattle.store_core.proofs.opening.replay.Goals as goal

pub returns-clause-list : goal.returns-clause-list
returns-clause-list g c = λ sh R settled log. subst (HasList g.D.Disk.meaning R) (sym c.over.ensures) (c.in_ok-loaded.ensures.list sh R settled log _)

pub returns-clause-lawful : goal.returns-clause-lawful
returns-clause-lawful g c = λ sh R settled log lawful. subst (IsTrue g.D.Disk.meaning R) (sym c.over.ensures) (c.in_ok-loaded.ensures.lawful sh R settled log lawful _)

pub returns-clause-survives : goal.returns-clause-survives
returns-clause-survives g c = λ sh R durable sound.
    subst (Survives g.D.Disk.meaning (g.D.Disk.meaning.clock c.args.disk.now) (λ (m : ℕ). length R) R) (sym c.over.ensures) (c.in_ok-loaded.ensures.survives sh R durable sound _)
