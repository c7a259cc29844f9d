use Rattle.history_model.proofs.MigratedHistories as shown
use Rattle.history_model.proofs.migrations_are_shown.Goals as goal

pub returns : goal.returns
returns c = shown.migrations_are_shown
