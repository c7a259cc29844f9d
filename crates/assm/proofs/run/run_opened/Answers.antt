use Rattle.std.proofs.Common.{subst, Err}
use Rattle.session_world.specs.declared.fault.RunFault.{RunFault}
use Rattle.assm.specs.Ends.{RunsTo}
use Rattle.assm.proofs.Ending.{ends_as}
use Rattle.assm.proofs.run.run_opened.Goals as goal

pub returns-in-Err-WriteFault-clause-ends : goal.returns-in-Err-WriteFault-clause-ends
returns-in-Err-WriteFault-clause-ends g c = λ since data_bytes sh R h.
    subst (λ (e : RunFault). RunsTo g.D.Disk.meaning since data_bytes c.run_read.new.disk (g.K.Sink.written c.args.sink.now) (g.K.Sink.written c.run_read.new.sink) sh R c.args.scripts.now (Err e)) c.in-Err-WriteFault.field-0-is (c.in-Err-WriteFault.ensures.ran since data_bytes sh R h)

pub returns-in-Err-Store-clause-ends : goal.returns-in-Err-Store-clause-ends
returns-in-Err-Store-clause-ends g c = λ since data_bytes sh R h.
    let ran = subst (λ (e : RunFault). RunsTo g.D.Disk.meaning since data_bytes c.run_read.new.disk (g.K.Sink.written c.args.sink.now) (g.K.Sink.written c.run_read.new.sink) sh R c.args.scripts.now (Err e)) c.in-Err-Store.field-0-is (c.in-Err-Store.ensures.ran since data_bytes sh R h) in
    ends_as g.D.Disk.meaning since data_bytes c.run_read.new.disk c.status_of_store.new.disk sh R c.args.scripts.now (g.K.Sink.written c.args.sink.now) (g.K.Sink.written c.run_read.new.sink) c.in-Err-Store.fault c.status_of_store.result c.status_of_store.ensures.stops ran
