use Rattle.page_laws.proofs.UndoLaw as laws
use Rattle.page_laws.proofs.undo_pages_are_spelled.Goals as goal

pub returns : goal.returns
returns c = laws.undo_pages_are_spelled
