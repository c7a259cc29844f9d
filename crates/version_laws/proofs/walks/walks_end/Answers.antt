use Rattle.version_laws.proofs.Falling as laws
use Rattle.version_laws.proofs.walks.walks_end.Goals as goal

pub returns : goal.returns
returns c = laws.walks_end
