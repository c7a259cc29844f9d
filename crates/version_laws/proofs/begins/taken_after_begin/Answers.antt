use Rattle.version_laws.proofs.Begun as laws
use Rattle.version_laws.proofs.begins.taken_after_begin.Goals as goal

pub returns : goal.returns
returns c = laws.taken_after_begin
