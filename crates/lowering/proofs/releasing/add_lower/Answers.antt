use Rattle.std.proofs.Common.{ℕ, ◌∷◌}
use Rattle.redo_model.specs.Records.{Lower}
use Rattle.store_core.proofs.Additions.{adds_ok, adds_err, tried_ok, tried_err}
use Rattle.lowering.proofs.releasing.add_lower.Goals as goal

pub returns-in-Ok-clause-adds : goal.returns-in-Ok-clause-adds
returns-in-Ok-clause-adds g c = λ R t lawful. adds_ok {A = ℕ} g.D.Disk.meaning c.args.store.now c.record.new.self c.in-Ok.field-0 c.args.answer R (Lower c.args.rec ∷ R) (c.in-Ok.ensures.adds R t lawful)

pub returns-in-Ok-clause-tried : goal.returns-in-Ok-clause-tried
returns-in-Ok-clause-tried g c = tried_ok {A = ℕ} g.D.Disk.meaning c.args.store.now c.record.new.self c.in-Ok.field-0 c.args.answer c.in-Ok.ensures.tried

pub returns-in-Err-clause-adds : goal.returns-in-Err-clause-adds
returns-in-Err-clause-adds g c = λ R t lawful. adds_err {A = ℕ} g.D.Disk.meaning c.args.store.now c.record.new.self c.in-Err.fault R (Lower c.args.rec ∷ R) (c.in-Err.ensures.adds R t lawful)

pub returns-in-Err-clause-tried : goal.returns-in-Err-clause-tried
returns-in-Err-clause-tried g c = tried_err {A = ℕ} g.D.Disk.meaning c.args.store.now c.record.new.self c.in-Err.fault c.in-Err.ensures.tried
