use Rattle.std.proofs.Common.{◌≡◌, Ok, inl, refl, sym, subst, arith}
use Rattle.script_text.specs.Script.{Script}
use Rattle.script_text.specs.Spelled.{IsScript, printed}
use Rattle.script_text.specs.Grammar.{scripts_of}
use Rattle.script_gen.specs.Generated.{generated}
use Rattle.session_step.specs.declared.forms.TheConstants.{BUILT_FORMS}
use Rattle.assm.proofs.Summed.{is_script, made_says}
use Rattle.assm.proofs.generating.run_generated.Goals as goal

pub run_summed-requires : goal.run_summed-requires
run_summed-requires g c = subst (λ (s : Script). IsScript BUILT_FORMS s) (sym c.in-Ok.ensures) (is_script c.args.number c.args.rows (omega (arith, c.ranges.rows.fits)))

pub returns-in-Ok-clause-tells : goal.returns-in-Ok-clause-tells
returns-in-Ok-clause-tells g c =
    c.run_summed.ensures.tells (printed (generated c.args.number c.args.rows))
    (subst (λ (s : Script). scripts_of BUILT_FORMS (printed (generated c.args.number c.args.rows)) ≡ Ok s) (sym c.in-Ok.ensures) (made_says c.args.number c.args.rows (omega (arith, c.ranges.rows.fits))))

pub returns-in-Err-clause-tells : goal.returns-in-Err-clause-tells
returns-in-Err-clause-tells g c = inl (record { printed = refl; same = refl })
