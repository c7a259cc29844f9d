use Rattle.shrink_move.proofs.draft.filled.Goals as goal

pub returns : goal.returns
returns c = λ R b k n bytes e h l. record { standing = e; content = h; room = l }
