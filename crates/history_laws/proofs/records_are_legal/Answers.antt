use Rattle.history_laws.proofs.LegalLaw as laws
use Rattle.history_laws.proofs.records_are_legal.Goals as goal

pub returns : goal.returns
returns c = laws.records_are_legal
