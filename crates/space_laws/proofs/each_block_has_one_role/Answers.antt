use Rattle.space_laws.proofs.ExtentsLaw as laws
use Rattle.space_laws.proofs.each_block_has_one_role.Goals as goal

pub returns : goal.returns
returns c = laws.each_block_has_one_role
