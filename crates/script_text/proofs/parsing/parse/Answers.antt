use Rattle.std.proofs.Common.{subst, sym}
use Rattle.script_text.specs.Script.{Script}
use Rattle.script_text.specs.Spelled.{IsScript}
use Rattle.script_text.proofs.ScriptFits.{read_built, read_all}
use Rattle.script_text.proofs.parsing.parse.Goals as goal

pub into_scripts-requires : goal.into_scripts-requires
into_scripts-requires c = read_all c.args.forms.now c.args.text.now c.in_ok-draft.draft c.in_ok-draft.ensures

pub returns-clause-built : goal.returns-clause-built
returns-clause-built c =
    let P : Script → Type 0 = IsScript c.args.forms.now in
    subst P (sym c.in_ok-into_scripts.ensures) (read_built c.args.forms.now c.args.text.now c.in_ok-draft.draft c.in_ok-draft.ensures)
