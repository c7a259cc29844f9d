use Rattle.change_laws.proofs.FindLaw as laws
use Rattle.change_laws.proofs.finds.row_blocks_are_born.Goals as goal

pub returns : goal.returns
returns c = laws.row_blocks_are_born
