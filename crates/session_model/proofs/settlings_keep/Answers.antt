use Rattle.session_model.proofs.Settling as laws
use Rattle.session_model.proofs.settlings_keep.Goals as goal

pub returns : goal.returns
returns c = laws.settlings_keep
