use Rattle.history_model.proofs.OneHistory.{one_legal}
use Rattle.history_model.proofs.TwoHistories.{two_legal}
use Rattle.history_model.proofs.small_histories_are_legal.Goals as goal

pub returns : goal.returns
returns c = record { one = one_legal; two = two_legal }
