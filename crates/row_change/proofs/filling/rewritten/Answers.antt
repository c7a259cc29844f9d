use Rattle.std.proofs.Common.{subst}
use Rattle.std.specs.Prelude.{IfOk}
use Rattle.redo_model.specs.Model.{Content}
use Rattle.change_laws.specs.Types.{fill}
use Rattle.store_core.proofs.Lookups.{looked_memory, looked_same}
use Rattle.row_change.specs.Drafting.{FillIs}
use Rattle.row_change.proofs.filling.rewritten.Goals as goal

pub returns-in-Err-clause-looked : goal.returns-in-Err-clause-looked
returns-in-Err-clause-looked g c = looked_memory {A = Unit {0}} g.D.Disk.meaning c.args.store.now c.args.store.now tt (looked_same g.D.Disk.meaning c.args.store.now tt c.requires.unspent)

pub returns-clause-says : goal.returns-clause-says
returns-clause-says g c = λ R o who own t a x. subst (λ (y : Content). IfOk c.fill_at.result (λ f. FillIs R own f (fill c.args.at.now y))) c.in-Ok.ensures.content (c.fill_at.ensures.says R o who own t a x)

pub returns-clause-sound : goal.returns-clause-sound
returns-clause-sound g c = λ R o who own t a x. c.fill_at.ensures.sound R o who own t a x c.requires.unspent
