use Rattle.space_laws.proofs.MarksLaw as laws
use Rattle.space_laws.proofs.formatted_are_under_mark.Goals as goal

pub returns : goal.returns
returns c = laws.formatted_are_under_mark
