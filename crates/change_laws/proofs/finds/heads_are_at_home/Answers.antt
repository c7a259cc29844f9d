use Rattle.change_laws.proofs.FindLaw as laws
use Rattle.change_laws.proofs.finds.heads_are_at_home.Goals as goal

pub returns : goal.returns
returns c = laws.heads_are_at_home
