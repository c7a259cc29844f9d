use Rattle.std.proofs.Common.{◌≡◌, ◌-◌, sym, subst, ◌∙◌, arith}
use Rattle.std.specs.Prelude.{ℕ, ◌≤◌, List, Some, slice_get}
use Rattle.script_text.specs.declared.statement.Statement.{Statement}
use Rattle.session_world.specs.Scripts.{AreRunnable}
use Rattle.session_world.proofs.Runnable.{script_at, got_script}
use Rattle.session_world.proofs.Turning.{unmoved}
use Rattle.session_world.proofs.events.step_any.Goals as goal

pub returns-then-who-eq0-clause-moved : goal.returns-then-who-eq0-clause-moved
returns-then-who-eq0-clause-moved g c = λ R0 R at. unmoved g.D.Disk.meaning c.args.scripts.now R0 R c.args.who c.args.store.now c.args.run.now (λ s. omega (arith, s.from, c.if-who-eq0.true)) at

pub returns-then-from-len-clause-moved : goal.returns-then-from-len-clause-moved
returns-then-from-len-clause-moved g c = λ R0 R at. unmoved g.D.Disk.meaning c.args.scripts.now R0 R c.args.who c.args.store.now c.args.run.now (λ s. omega (arith, s.to, at.seats, c.if-from-len.true, c.from.ensures, c.len.ensures)) at

pub step_script-requires-clause-runnable : goal.step_script-requires-clause-runnable
step_script-requires-clause-runnable g c =
    subst (λ (z : List Statement). AreRunnable z) (sym c.as_slice.ensures)
    (c.requires.runnable.each (c.from-2.result - 1) c.in-Some.script.now (got_script c.args.scripts.now (c.from-2.result - 1) c.in-Some.script.now c.in-Some.ensures.lookup.3.0 c.in-Some.ensures.lookup.1))

pub returns-in-Some-clause-moved : goal.returns-in-Some-clause-moved
returns-in-Some-clause-moved g c = λ R0 R at.
    let who = c.args.who in
    let scripts = c.args.scripts.now in
    let got = got_script scripts (c.from-2.result - 1) c.in-Some.script.now c.in-Some.ensures.lookup.3.0 c.in-Some.ensures.lookup.1 in
    let here : slice_get scripts (who - 1) ≡ Some c.in-Some.script.now = subst (λ (n : ℕ). slice_get scripts (n - 1) ≡ Some c.in-Some.script.now) c.from-2.ensures got in
    let from : 1 ≤ who = omega (arith, c.if-who-eq0.false) in
    c.step_script.ensures.moved scripts R0 R (script_at scripts who c.in-Some.script.now from here ∙ sym c.as_slice.ensures) (record { from = from; to = omega (arith, at.seats, c.if-from-len.false, c.from.ensures, c.len.ensures) }) at
