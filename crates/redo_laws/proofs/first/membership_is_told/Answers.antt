use Rattle.redo_laws.proofs.space.ApartLaw as laws
use Rattle.redo_laws.proofs.first.membership_is_told.Goals as goal

pub returns : goal.returns
returns c = laws.membership_is_told
