use Rattle.std.proofs.Common.{ℕ, Option, length, sym, ap, ◌∙◌}
use Rattle.change_laws.specs.Types.{BlockNeeded, by_change, change_to_block}
use Rattle.store_core.proofs.Lookups.{looked_same}
use Rattle.row_change.specs.Standing.{told_stand}
use Rattle.row_change.proofs.updating.decide_to_other.Goals as goal

pub returns-in-None-clause-looked : goal.returns-in-None-clause-looked
returns-in-None-clause-looked g c = looked_same g.D.Disk.meaning c.args.store.now _ c.requires.unspent

pub returns-in-None-clause-says : goal.returns-in-None-clause-says
returns-in-None-clause-says g c = λ R who own t m a i can. ap (λ (y : Option ℕ). by_change c.args.store.now.shape R (length c.args.u.now.bytes.now) (change_to_block R c.args.u.now.obj c.args.u.now.row (told_stand c.args.u.now.stand) c.args.u.now.bytes.now y)) c.in-None.is ∙ ap (λ n. BlockNeeded n) (sym c.length_of.ensures)

pub returns-in-Some-clause-says : goal.returns-in-Some-clause-says
returns-in-Some-clause-says g c = λ R who own t m a i can. c.decide_migration.ensures.says R who own t m a i c.in-Some.is can

pub returns-in-Some-clause-sound : goal.returns-in-Some-clause-sound
returns-in-Some-clause-sound g c = λ R who own t a i. c.decide_migration.ensures.sound R who own t a i c.in-Some.is
