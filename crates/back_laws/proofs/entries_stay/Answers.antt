use Rattle.back_laws.proofs.Entered as laws
use Rattle.back_laws.proofs.entries_stay.Goals as goal

pub returns : goal.returns
returns c = laws.entries_stay
