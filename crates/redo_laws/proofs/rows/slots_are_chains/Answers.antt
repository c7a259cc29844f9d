use Rattle.redo_laws.proofs.links.ChainLaw as laws
use Rattle.redo_laws.proofs.rows.slots_are_chains.Goals as goal

pub returns : goal.returns
returns c = laws.slots_are_chains
