use Rattle.history_model.proofs.RefusedHistories.{histories_are_refused}
use Rattle.history_model.proofs.wrong_histories_are_refused.Goals as goal

pub returns : goal.returns
returns c = histories_are_refused
