use Rattle.redo_laws.proofs.homes.PairsLaw as laws
use Rattle.redo_laws.proofs.rows.heads_name_bodies.Goals as goal

pub returns : goal.returns
returns c = laws.heads_name_bodies
