use Rattle.script_gen.specs.Generated.{generated}
use Rattle.script_gen.proofs.InGrammar.{in_grammar}
use Rattle.script_gen.proofs.laws.generated_in_grammar.Goals as goal

pub returns : goal.returns
unfolding generated
returns c = λ forms number rows small shrink. in_grammar forms number rows small shrink
