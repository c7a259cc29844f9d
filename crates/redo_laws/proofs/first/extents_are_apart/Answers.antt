use Rattle.redo_laws.proofs.space.ApartLaw as laws
use Rattle.redo_laws.proofs.first.extents_are_apart.Goals as goal

pub returns : goal.returns
returns c = laws.extents_are_apart
