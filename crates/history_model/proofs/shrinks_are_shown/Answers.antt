use Rattle.history_model.proofs.ShrunkHistories as shown
use Rattle.history_model.proofs.shrinks_are_shown.Goals as goal

pub returns : goal.returns
returns c = shown.shrinks_are_shown
