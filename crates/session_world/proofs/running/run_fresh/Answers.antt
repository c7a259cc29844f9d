use Rattle.session_world.proofs.running.run_fresh.Goals as goal

pub returns-clause-ran : goal.returns-clause-ran
returns-clause-ran g c = λ R0 t none. (c.run_in.ensures.ran R0 t none).whole
