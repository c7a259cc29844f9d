use Rattle.back_laws.proofs.BackHomes as laws
use Rattle.back_laws.proofs.steps_are_of_tables.Goals as goal

pub returns : goal.returns
returns c = laws.steps_are_of_tables
