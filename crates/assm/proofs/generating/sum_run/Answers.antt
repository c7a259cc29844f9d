use Rattle.std.proofs.Common.{List, None, Result, reverse, subst}
use Rattle.history_model.specs.declared.history.HistoryItem.{HistoryItem}
use Rattle.assm.specs.Generates.{SumsHistory}
use Rattle.session_world.specs.declared.fault.RunFault.{RunFault}
use Rattle.session_world.specs.Whole.{HasRunIn}
use Rattle.assm.proofs.Summed.{at_ok, device_of, has_summed, lacks_sum, never_device, never_rose, on_ok}
use Rattle.assm.proofs.generating.sum_run.Goals as goal

pub store_answer-requires : goal.store_answer-requires
store_answer-requires g c = λ e. never_rose (c.run_in-ran.ensures.served.write e)

pub returns-in-Ok-clause-ran : goal.returns-in-Ok-clause-ran
returns-in-Ok-clause-ran g c = λ R0 t none.
    has_summed g.D.Disk.meaning c.args.scripts.now R0 c.args.store.now c.run_in-ran.new.store c.run_in-ran.new.run.history c.commits.result c.sum_up.result
    (subst (λ (r : Result (Unit {0}) RunFault). HasRunIn g.D.Disk.meaning c.args.scripts.now R0 c.args.store.now c.run_in-ran.new.store None None c.run_in-ran.new.run.history r) c.in-Ok.ensures (c.run_in-ran.ensures.ran R0 t none))
    c.commits.ensures.list (subst (λ (T : List HistoryItem). SumsHistory T c.commits.result c.sum_up.result) c.as_slice.ensures c.sum_up.ensures)

pub returns-in-Err-clause-ran : goal.returns-in-Err-clause-ran
returns-in-Err-clause-ran g c = λ R0 t none.
    lacks_sum g.D.Disk.meaning c.args.scripts.now R0 c.args.store.now c.run_in-ran.new.store c.in-Err.fault
    (subst (λ (r : Result (Unit {0}) RunFault). HasRunIn g.D.Disk.meaning c.args.scripts.now R0 c.args.store.now c.run_in-ran.new.store None None c.run_in-ran.new.run.history r) c.in-Err.ensures (c.run_in-ran.ensures.ran R0 t none)).whole

pub returns-in-Ok-clause-device_fault : goal.returns-in-Ok-clause-device_fault
returns-in-Ok-clause-device_fault g c = λ e. absurd (never_device (reverse c.as_slice.result.now) c.commits.result c.sum_up.result c.sum_up.ensures e)

pub returns-in-Ok-clause-unspent : goal.returns-in-Ok-clause-unspent
returns-in-Ok-clause-unspent g c = on_ok c.sum_up.result _ (at_ok c.run_in-ran.result _ c.in-Ok.ensures c.run_in-ran.ensures.served.unspent)

pub returns-in-Err-clause-device_fault : goal.returns-in-Err-clause-device_fault
returns-in-Err-clause-device_fault g c = λ e. c.run_in-ran.ensures.served.device (device_of c.run_in-ran.result c.in-Err.fault c.in-Err.ensures e)
