use Rattle.history_laws.proofs.Ways as laws
use Rattle.history_laws.proofs.histories_settle.Goals as goal

pub returns : goal.returns
returns c = laws.histories_settle
