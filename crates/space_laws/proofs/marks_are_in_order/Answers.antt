use Rattle.space_laws.proofs.MarksLaw as laws
use Rattle.space_laws.proofs.marks_are_in_order.Goals as goal

pub returns : goal.returns
returns c = laws.marks_are_in_order
