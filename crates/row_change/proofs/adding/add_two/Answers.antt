use Rattle.std.proofs.Common.{◌∷◌, ℕ}
use Rattle.store_core.proofs.Additions.{adds_ok, adds_err, tried_ok, tried_err}
use Rattle.row_change.proofs.adding.add_two.Goals as goal

pub returns-in-Ok-clause-makes : goal.returns-in-Ok-clause-makes
returns-in-Ok-clause-makes g c = λ R t l w. adds_ok {A = ℕ} g.D.Disk.meaning c.args.store.now c.record_two.new.self c.in-Ok.field-0 tt R (c.args.second.now ∷ c.args.first.now ∷ R) (c.in-Ok.ensures.adds R t l w)

pub returns-in-Err-clause-makes : goal.returns-in-Err-clause-makes
returns-in-Err-clause-makes g c = λ R t l w. adds_err {A = ℕ} g.D.Disk.meaning c.args.store.now c.record_two.new.self c.in-Err.fault R (c.args.second.now ∷ c.args.first.now ∷ R) (c.in-Err.ensures.adds R t l w)

pub returns-in-Ok-clause-tried : goal.returns-in-Ok-clause-tried
returns-in-Ok-clause-tried g c = tried_ok {A = ℕ} g.D.Disk.meaning c.args.store.now c.record_two.new.self c.in-Ok.field-0 tt c.in-Ok.ensures.tried

pub returns-in-Err-clause-tried : goal.returns-in-Err-clause-tried
returns-in-Err-clause-tried g c = tried_err {A = ℕ} g.D.Disk.meaning c.args.store.now c.record_two.new.self c.in-Err.fault c.in-Err.ensures.tried
