use Rattle.std.proofs.Common.{length, sym, ap, ◌∙◌}
use Rattle.change_laws.specs.Types.{BlockNeeded, by_change, change_to_head}
use Rattle.store_core.proofs.Lookups.{looked_same}
use Rattle.row_change.specs.Standing.{told_stand}
use Rattle.row_change.specs.declared.stand.Stand.{Stand}
use Rattle.row_change.proofs.updating.decide_to_head.Goals as goal

pub returns-in-Whole-clause-looked : goal.returns-in-Whole-clause-looked
returns-in-Whole-clause-looked g c = looked_same g.D.Disk.meaning c.args.store.now _ c.requires.unspent

pub returns-in-Whole-clause-says : goal.returns-in-Whole-clause-says
returns-in-Whole-clause-says g c = λ R who own t m a i can. ap (λ (z : Stand). by_change c.args.store.now.shape R (length c.args.u.now.bytes.now) (change_to_head c.args.u.now.obj c.args.u.now.row (told_stand z) c.args.u.now.bytes.now)) c.in-Whole.is ∙ ap (λ n. BlockNeeded n) (sym c.length_of.ensures)

pub returns-in-Apart-clause-says : goal.returns-in-Apart-clause-says
returns-in-Apart-clause-says g c = λ R who own t m a i can. c.decide_return.ensures.says R who own t m a i (ap (λ (z : Stand). told_stand z) c.in-Apart.is) can

pub returns-in-Apart-clause-sound : goal.returns-in-Apart-clause-sound
returns-in-Apart-clause-sound g c = λ R who own t a i. c.decide_return.ensures.sound R who own t a i (ap (λ (z : Stand). told_stand z) c.in-Apart.is)
