use Rattle.std.proofs.Common.{refl}
use Rattle.session_core.proofs.Noting.{left_as}
use Rattle.session_core.proofs.leaving.has_left.Goals as goal

pub returns-clause-says : goal.returns-clause-says
returns-clause-says g c = λ R t. left_as _ c.ask.result (c.ask.ensures.says R t)

pub returns-clause-sound : goal.returns-clause-sound
returns-clause-sound g c = λ R t n there. c.ask.ensures.sound R _ t n there refl
