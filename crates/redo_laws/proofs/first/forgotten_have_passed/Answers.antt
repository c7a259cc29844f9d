use Rattle.redo_laws.proofs.numbers.TxnTable as laws
use Rattle.redo_laws.proofs.first.forgotten_have_passed.Goals as goal

pub returns : goal.returns
returns c = laws.forgotten_have_passed
