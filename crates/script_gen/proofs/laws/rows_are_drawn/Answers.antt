use Rattle.std.proofs.Common.{refl, arith}
use Rattle.script_gen.specs.Drawn.{next_number}
use Rattle.script_gen.proofs.InGrammar.{row_length}
use Rattle.script_gen.proofs.laws.rows_are_drawn.Goals as goal

pub returns-clause-least : goal.returns-clause-least
returns-clause-least c = λ x. omega (arith, row_length x)

pub returns-clause-most : goal.returns-clause-most
returns-clause-most c = λ x. omega (arith, row_length x)

pub returns-clause-first : goal.returns-clause-first
unfolding next_number
returns-clause-first c = refl

pub returns-clause-second : goal.returns-clause-second
unfolding next_number
returns-clause-second c = refl

pub returns-clause-third : goal.returns-clause-third
unfolding next_number
returns-clause-third c = refl
