use Rattle.session_world.proofs.Closing.{run_closes, run_fails, only_device}
use Rattle.session_world.proofs.running.close_run.Goals as goal

pub returns-in-Ok-clause-closed : goal.returns-in-Ok-clause-closed
returns-in-Ok-clause-closed g c = λ scripts R0 called first before after run h.
    run_closes g.D.Disk.meaning scripts R0 called first c.args.store.now c.flush_log.new.self before after run h c.in-Ok.ensures.looked (λ R t. c.in-Ok.ensures.stable R t.list)

pub returns-in-Err-clause-closed : goal.returns-in-Err-clause-closed
returns-in-Err-clause-closed g c = λ scripts R0 called first before after run h.
    run_fails g.D.Disk.meaning scripts R0 called first c.args.store.now c.flush_log.new.self before after run c.in-Err.fault (only_device c.in-Err.fault (c.in-Err.ensures.only c.requires.unspent)) h c.in-Err.ensures.looked
