use Rattle.change_laws.proofs.BodyLaw as laws
use Rattle.change_laws.proofs.looks.bodies_name_heads.Goals as goal

pub returns : goal.returns
returns c = laws.bodies_name_heads
