use Rattle.page_laws.proofs.UndoLaw as laws
use Rattle.page_laws.proofs.undo_takes_parts.Goals as goal

pub returns : goal.returns
returns c = laws.undo_takes_parts
