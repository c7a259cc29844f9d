use Rattle.version_laws.proofs.Begun as laws
use Rattle.version_laws.proofs.begins.holders_stay.Goals as goal

pub returns : goal.returns
returns c = laws.holders_stay
