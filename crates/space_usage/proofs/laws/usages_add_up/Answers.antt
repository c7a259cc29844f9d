use Rattle.space_usage.proofs.SumsLaw as laws
use Rattle.space_usage.proofs.laws.usages_add_up.Goals as goal

pub returns : goal.returns
returns c = laws.usages_add_up
