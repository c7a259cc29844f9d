use Rattle.std.proofs.Common.{◌∷◌, ◌∙◌, ap}
use Rattle.shrink_laws.specs.declared.skip.Skip.{Skip}
use Rattle.shrink_move.specs.Stepping.{shrink_with}
use Rattle.shrink_move.proofs.shrink.Shrink.skip.Goals as goal

pub returns-in-Ok-clause-skips : goal.returns-in-Ok-clause-skips
returns-in-Ok-clause-skips g c = λ R h. c.in-Ok.ensures.ok ∙ ap (λ (s : Skip). shrink_with c.args.self.now.obj c.args.come.now.place (s ∷ c.args.self.now.skips)) (c.skip_of.ensures R h)
