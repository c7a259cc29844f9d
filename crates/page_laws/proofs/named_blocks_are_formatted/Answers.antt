use Rattle.page_laws.proofs.FitsLaw as laws
use Rattle.page_laws.proofs.named_blocks_are_formatted.Goals as goal

pub returns : goal.returns
returns c = laws.named_blocks_are_formatted
