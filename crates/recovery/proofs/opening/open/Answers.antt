use Rattle.std.proofs.Common.{ℕ, length, sym, subst, rules}
use Rattle.disk_model.specs.Crash.{Untouched}
use Rattle.rollback_laws.specs.Closing.{closed}
use Rattle.store_core.specs.Store.{Held}
use Rattle.store_core.specs.Survives.{Survives}
use Rattle.recovery.specs.Refused.{IsLeftActive, IsRead, IsRefused}
use Rattle.recovery.specs.Opened.{IsOpened, ReopensSince}
use Rattle.recovery.proofs.Refusals.{either}
use Rattle.recovery.proofs.opening.open.Goals as goal

pub returns-clause-read : goal.returns-clause-read
returns-clause-read g c = λ told. subst (λ (s : Held g.row.D.Denot). IsRead s.shape (g.D.Disk.meaning.files c.args.disk.now)) (sym c.over.ensures) (c.in_ok-loaded.ensures.read told)

pub returns-clause-opened : goal.returns-clause-opened
returns-clause-opened g c = λ sh R settled sound. subst (IsOpened g.D.Disk.meaning sh R) (sym c.over.ensures) (c.in_ok-loaded.ensures.opened sh R settled sound _)

pub returns-clause-survives : goal.returns-clause-survives
returns-clause-survives g c = λ sh R durable sound.
    subst (Survives g.D.Disk.meaning (g.D.Disk.meaning.clock c.args.disk.now) (λ (m : ℕ). length R) (closed R)) (sym c.over.ensures) (c.in_ok-loaded.ensures.survives sh R durable sound _)

pub returns-clause-any_moment : goal.returns-clause-any_moment
returns-clause-any_moment g c = λ sh R durable sound.
    subst (λ (s : Held g.row.D.Denot). ReopensSince g.D.Disk.meaning (g.D.Disk.meaning.clock c.args.disk.now) sh R (g.D.Disk.meaning.files c.args.disk.now).data_bytes s.disk) (sym c.over.ensures) (c.in_ok-loaded.ensures.any_moment sh R durable sound)

pub returns-clause-first : goal.returns-clause-first
returns-clause-first g c = subst (λ (s : Held g.row.D.Denot). Untouched g.D.Disk.meaning c.args.disk.now s.first) (sym c.over.ensures) c.in_ok-loaded.ensures.first

pub returns-in_err-loaded-clause-refused : goal.returns-in_err-loaded-clause-refused
returns-in_err-loaded-clause-refused g c = λ settled.
    let files = g.D.Disk.meaning.files c.args.disk.now in
    either c.from_residual.result _ _ (IsRefused files) (IsLeftActive files) (search rules) (c.in_err-loaded.ensures.refused settled)
