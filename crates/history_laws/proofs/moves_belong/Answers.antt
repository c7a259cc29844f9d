use Rattle.history_laws.proofs.LegalLaw as laws
use Rattle.history_laws.proofs.moves_belong.Goals as goal

pub returns : goal.returns
returns c = laws.moves_belong
