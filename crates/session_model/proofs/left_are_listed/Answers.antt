use Rattle.session_model.proofs.Repairing as laws
use Rattle.session_model.proofs.left_are_listed.Goals as goal

pub returns : goal.returns
returns c = laws.left_are_listed
