use Rattle.usage_laws.proofs.SettledLaw as laws
use Rattle.usage_laws.proofs.settled_is_lawful.Goals as goal

pub returns : goal.returns
returns c = laws.settled_is_lawful
