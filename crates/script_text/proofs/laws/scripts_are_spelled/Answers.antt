use Rattle.script_text.proofs.ScriptFits.{scripts_fit}
use Rattle.script_text.proofs.laws.scripts_are_spelled.Goals as goal

pub returns-clause-read : goal.returns-clause-read
returns-clause-read c = scripts_fit
