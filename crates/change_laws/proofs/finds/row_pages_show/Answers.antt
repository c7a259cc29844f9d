use Rattle.change_laws.proofs.ShowLaw as laws
use Rattle.change_laws.proofs.finds.row_pages_show.Goals as goal

pub returns : goal.returns
returns c = laws.row_pages_show
