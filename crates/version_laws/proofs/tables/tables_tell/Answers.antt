use Rattle.version_laws.proofs.TableLaw as laws
use Rattle.version_laws.proofs.tables.tables_tell.Goals as goal

pub returns : goal.returns
returns c = laws.tables_tell
