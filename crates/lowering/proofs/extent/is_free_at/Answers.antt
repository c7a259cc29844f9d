use Rattle.std.proofs.Common.{◌≡◌, ℕ, IfOk}
use Rattle.std.specs.Prelude.{IfErr}
use Rattle.store_core.specs.Causes.{IsSoundFault}
use Rattle.store_core.proofs.Lookups.{looked_on, looked_err}
use Rattle.lowering.specs.Walks.{is_free}
use Rattle.lowering.proofs.Freeing.{at_nth, begin_there}
use Rattle.lowering.proofs.extent.is_free_at.Goals as goal

pub returns-in-Ok-clause-looked : goal.returns-in-Ok-clause-looked
returns-in-Ok-clause-looked g c = looked_on g.D.Disk.meaning c.args.store.now c.code_at.new.store c.is_free.new.store c.in-Ok.code c.is_free.result c.in-Ok.ensures.looked c.is_free.ensures.looked

pub returns-in-Ok-clause-says : goal.returns-in-Ok-clause-says
returns-in-Ok-clause-says g c = λ R o index e k x d.
    at_nth g.D.Disk.meaning c.args.store.now c.code_at.new.store R o index c.args.first c.args.nth c.nth_after.result c.in-Ok.code e c.args.ground.now (λ (n : ℕ). IfOk c.is_free.result (λ y. y ≡ is_free c.args.ground.now.shape R n))
    k x d c.nth_after.ensures c.in-Ok.ensures.looked (λ f m. c.in-Ok.ensures.says R o index e k.holds x.at f m) (λ q m v. c.is_free.ensures.says R o q m v)

pub returns-in-Ok-clause-sound : goal.returns-in-Ok-clause-sound
returns-in-Ok-clause-sound g c = λ R o index e k x d u.
    at_nth g.D.Disk.meaning c.args.store.now c.code_at.new.store R o index c.args.first c.args.nth c.nth_after.result c.in-Ok.code e c.args.ground.now (λ (n : ℕ). IfErr c.is_free.result IsSoundFault)
    k x d c.nth_after.ensures c.in-Ok.ensures.looked (λ f m. c.in-Ok.ensures.says R o index e k.holds x.at f m) (λ q m v. c.is_free.ensures.sound R o q m v)

pub returns-in-Err-clause-looked : goal.returns-in-Err-clause-looked
returns-in-Err-clause-looked g c = looked_err {A = ℕ} g.D.Disk.meaning c.args.store.now c.code_at.new.store c.in-Err.fault c.in-Err.ensures.looked

pub returns-in-Err-clause-sound : goal.returns-in-Err-clause-sound
returns-in-Err-clause-sound g c = λ R o index e k x d u. c.in-Err.ensures.sound R o index e k.holds k.table x.at (begin_there c.args.ground.now.shape c.args.store.now.shape R o index c.args.first e k.shape x) c.requires.near u

pub is_free-requires : goal.is_free-requires
is_free-requires g c = record { unspent = c.in-Ok.ensures.looked.cause.kept c.in-Ok.ensures.looked.cause.goes_on }
