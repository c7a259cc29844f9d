use Rattle.change_laws.proofs.ShowLaw as laws
use Rattle.change_laws.proofs.finds.undo_pages_show.Goals as goal

pub returns : goal.returns
returns c = laws.undo_pages_show
