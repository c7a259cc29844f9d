use Rattle.shrink_laws.proofs.CursorLaw as laws
use Rattle.shrink_laws.proofs.cursor_starts.Goals as goal

pub returns : goal.returns
returns c = laws.cursor_starts
