use Rattle.redo_laws.proofs.numbers.Bounds as laws
use Rattle.redo_laws.proofs.first.numbers_are_short.Goals as goal

pub returns : goal.returns
returns c = laws.numbers_are_short
