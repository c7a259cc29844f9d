use Rattle.head_laws.proofs.HeadLaw as laws
use Rattle.head_laws.proofs.located_were_found.Goals as goal

pub returns : goal.returns
returns c = laws.located_were_found
