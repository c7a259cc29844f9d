use Rattle.change_laws.proofs.MadeLaw as laws
use Rattle.change_laws.proofs.answers.inserts_are_made.Goals as goal

pub returns : goal.returns
returns c = laws.inserts_are_made
