use Rattle.history_model.proofs.ScannedHistories as shown
use Rattle.history_model.proofs.scans_are_shown.Goals as goal

pub returns : goal.returns
returns c = shown.scans_are_shown
