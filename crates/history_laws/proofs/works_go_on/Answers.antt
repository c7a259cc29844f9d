use Rattle.history_laws.proofs.Ways as laws
use Rattle.history_laws.proofs.works_go_on.Goals as goal

pub returns : goal.returns
returns c = laws.works_go_on
