use Rattle.std.proofs.Common.{ℕ, sym, subst, length}
use Rattle.std.proofs.lemmas.Result.{err_from_is_err_and}
use Rattle.pool_store.specs.Store.{HasList, IsTrue}
use Rattle.pool_store.specs.Survives.{Survives}
use Rattle.pool_store.specs.Causes.{IsSoundOpen}
use Rattle.pool_store.proofs.Prepared.{err_with}
use Rattle.pool_store.proofs.opening.replay.Goals as goal

pub returns-clause-list : goal.returns-clause-list
returns-clause-list g c = λ sh R settled log. subst (HasList g.D.Disk.meaning R) (sym c.over.ensures) (c.in_ok-loaded.ensures.list sh R settled log _)

pub returns-clause-lawful : goal.returns-clause-lawful
returns-clause-lawful g c = λ sh R durable sound. subst (IsTrue g.D.Disk.meaning R) (sym c.over.ensures) (c.in_ok-loaded.ensures.lawful sh R durable sound _)

pub returns-clause-survives : goal.returns-clause-survives
returns-clause-survives g c = λ sh R durable sound.
    subst (Survives g.D.Disk.meaning (g.D.Disk.meaning.clock c.args.disk.now) (λ (m : ℕ). length R) R) (sym c.over.ensures) (c.in_ok-loaded.ensures.survives sh R durable sound _)

pub returns-in_err-loaded-clause-sound : goal.returns-in_err-loaded-clause-sound
returns-in_err-loaded-clause-sound g c = λ sh R durable sound.
    let p = err_from_is_err_and c.from_residual.result c.from_residual.ensures.1 in
    err_with c.from_residual.result p.0 IsSoundOpen p.1 (subst IsSoundOpen (sym p.2) (c.in_err-loaded.ensures.sound sh R durable sound))
