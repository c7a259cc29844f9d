use Rattle.sort_laws.proofs.MeetsLaw as laws
use Rattle.sort_laws.proofs.called_reuses_find_table.Goals as goal

pub returns : goal.returns
returns c = laws.called_reuses_find_table
