use Rattle.redo_laws.proofs.homes.HomesLaw as laws
use Rattle.redo_laws.proofs.rows.slots_are_at_home.Goals as goal

pub returns : goal.returns
returns c = laws.slots_are_at_home
