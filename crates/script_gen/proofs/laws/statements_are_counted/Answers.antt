use Rattle.script_gen.proofs.Counting.{counted}
use Rattle.script_gen.proofs.laws.statements_are_counted.Goals as goal

pub returns : goal.returns
returns c = counted
