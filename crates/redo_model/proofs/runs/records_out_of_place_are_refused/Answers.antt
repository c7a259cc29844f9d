use Rattle.redo_model.proofs.NotAllowed as laws
use Rattle.redo_model.proofs.runs.records_out_of_place_are_refused.Goals as goal

pub returns : goal.returns
returns c = laws.not_allowed
