use Rattle.head_laws.proofs.HeadLaw as laws
use Rattle.head_laws.proofs.heads_stay.Goals as goal

pub returns : goal.returns
returns c = laws.heads_stay
