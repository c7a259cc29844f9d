use Rattle.session_world.specs.Order.{after_schedule}
use Rattle.session_world.proofs.running.run_sessions.Goals as goal

pub returns-in-Ok-clause-comes : goal.returns-in-Ok-clause-comes
returns-in-Ok-clause-comes g c = λ R0 R called first before h.
    let on = c.in-Ok.ensures.goes R0 R called first before h in
    c.go_to_end.ensures.comes R0 on.records (after_schedule c.args.schedule.now called) first before on.so_far

pub returns-in-Err-clause-comes : goal.returns-in-Err-clause-comes
returns-in-Err-clause-comes g c = λ R0 R called first before h. record { rounds = 0; stopped = c.in-Err.ensures.goes R0 R called first before h }
