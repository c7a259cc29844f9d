use Rattle.change_laws.proofs.BegunLaw as laws
use Rattle.change_laws.proofs.begins.begun_changes_are_lawful.Goals as goal

pub returns : goal.returns
returns c = laws.begun_changes_are_lawful
