use Rattle.std.proofs.Common.{refl}
use Rattle.shrink_move.proofs.draft.emptied.Goals as goal

pub returns : goal.returns
returns c = λ R b k e. record { standing = e; content = c.nothing.ensures.content; room = refl }
