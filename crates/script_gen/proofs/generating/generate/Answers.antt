use Rattle.std.proofs.Common.{◌<◌, ◌^◌, ◌∙◌, List, ℕ, length, sym, subst, ap, arith}
use Rattle.std.specs.Str.Lines.{lines}
use Rattle.script_text.specs.declared.form.TheConstants.{ALL_FORMS}
use Rattle.script_text.specs.declared.why.ScriptFault.{ScriptFault}
use Rattle.script_text.specs.declared.why.ScriptFault.TheVariants.{BadLine}
use Rattle.script_text.specs.Grammar.{scripts_of}
use Rattle.script_text.specs.Parsed.{RefusesScript}
use Rattle.script_gen.specs.Generated.{generated}
use Rattle.script_gen.proofs.Texts.{is_short, never_both, reads, same_script}
use Rattle.script_gen.proofs.generating.generate.Goals as goal

pub parse-requires : goal.parse-requires
parse-requires c = subst (λ (text : List ℕ). length (lines text) < 2 ^ 32) (sym (c.deref.ensures.value ∙ c.in_ok-text.ensures)) (is_short c.args.number c.args.rows (omega (arith, c.ranges.rows.fits)))

pub returns-in-Ok : goal.returns-in-Ok
returns-in-Ok c =
    let says = ap (scripts_of ALL_FORMS) (c.deref.ensures.value ∙ c.in_ok-text.ensures) ∙ reads c.args.number c.args.rows (omega (arith, c.ranges.rows.fits)) in
    same_script c.in-Ok.scripts (generated c.args.number c.args.rows) (sym c.in-Ok.ensures.read ∙ says)

pub unreachable-requires : goal.unreachable-requires
unreachable-requires c =
    let says = ap (scripts_of ALL_FORMS) (c.deref.ensures.value ∙ c.in_ok-text.ensures) ∙ reads c.args.number c.args.rows (omega (arith, c.ranges.rows.fits)) in
    let refused = subst (λ (f : ScriptFault). RefusesScript f (scripts_of ALL_FORMS c.deref.result.now)) c.in-Err-BadLine.field-0-is c.in-Err-BadLine.ensures.read in
    never_both (generated c.args.number c.args.rows) (BadLine c.in-Err-BadLine.field-0-0 c.in-Err-BadLine.field-0-1) (sym says ∙ refused)
