use Rattle.redo_laws.proofs.numbers.Ordinals as laws
use Rattle.redo_laws.proofs.first.numbers_are_given_once.Goals as goal

pub returns : goal.returns
returns c = laws.numbers_are_given_once
