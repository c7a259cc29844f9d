use Rattle.mark_laws.proofs.Computing as laws
use Rattle.mark_laws.proofs.new_table_computes.Goals as goal

pub returns : goal.returns
returns c = laws.new_table_right
