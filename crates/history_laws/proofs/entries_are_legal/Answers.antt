use Rattle.history_laws.proofs.LegalLaw as laws
use Rattle.history_laws.proofs.entries_are_legal.Goals as goal

pub returns : goal.returns
returns c = laws.entries_are_legal
