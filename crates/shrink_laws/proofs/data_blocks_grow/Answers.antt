use Rattle.shrink_laws.proofs.GrownLaw as laws
use Rattle.shrink_laws.proofs.data_blocks_grow.Goals as goal

pub returns : goal.returns
returns c = laws.data_blocks_grow
