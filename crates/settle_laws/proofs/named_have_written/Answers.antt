use Rattle.settle_laws.proofs.NamedLaw as laws
use Rattle.settle_laws.proofs.named_have_written.Goals as goal

pub returns : goal.returns
returns c = laws.named_have_written
