use Rattle.script_text.proofs.RowsSpelled.{row_spells}
use Rattle.script_text.proofs.laws.one_spelling.Goals as goal

pub returns-clause-spelled : goal.returns-clause-spelled
returns-clause-spelled c = row_spells
