use Rattle.std.proofs.Common.{ap, sym, subst, Err}
use Rattle.assm.specs.declared.status.Status.{Status}
use Rattle.store_files.specs.declared.fault.OpenFault.{OpenFault}
use Rattle.assm.specs.Generates.{SumTells}
use Rattle.assm.proofs.Told.{not_opened, begins_with}
use Rattle.assm.proofs.Summed.{sum_not_opened, sum_printed, sum_stopped}
use Rattle.assm.proofs.generating.run_summed.Goals as goal

pub returns-in-Err-clause-tells : goal.returns-in-Err-clause-tells
returns-in-Err-clause-tells g c = λ text says.
    let meaning = g.D.Disk.meaning in
    let written = g.K.Sink.written c.args.sink.now in
    subst (λ (s : Status). SumTells meaning c.args.disk.now c.recover.new.disk written written s text) (sym c.from.ensures)
    (sum_not_opened meaning c.args.disk.now c.recover.new.disk written text c.in-Err.fault (_, says)
    (not_opened meaning c.args.disk.now c.recover.new.disk written c.in-Err.fault c.in-Err.ensures.refused c.in-Err.ensures.shows c.in-Err.ensures.sound c.in-Err.ensures.any_moment)
    (λ e. c.in-Err.ensures.only (ap (λ (f : OpenFault). Err f) e)))

pub returns-in-Ok-sum_read-clause-tells : goal.returns-in-Ok-sum_read-clause-tells
returns-in-Ok-sum_read-clause-tells g c = λ text says.
    let meaning = g.D.Disk.meaning in
    sum_printed meaning c.args.disk.now text c.args.scripts.now c.in-Ok.loaded.shape says c.in-Ok.ensures.read c.sum_read.new.disk (g.K.Sink.written c.args.sink.now) (g.K.Sink.written c.print_sum.new.sink) c.in-Ok-sum_read.sum c.print_sum.result
    (λ sh R h. c.in-Ok-sum_read.ensures.summed (meaning.clock c.args.disk.now) (meaning.files c.args.disk.now).data_bytes sh R (begins_with meaning c.args.disk.now c.recover.new.disk sh R c.in-Ok.loaded c.in-Ok.ensures.opened c.in-Ok.ensures.survives c.in-Ok.ensures.first h))
    c.print_sum.ensures.prints

pub returns-in-Err-sum_read-clause-tells : goal.returns-in-Err-sum_read-clause-tells
returns-in-Err-sum_read-clause-tells g c = λ text says.
    let meaning = g.D.Disk.meaning in
    sum_stopped meaning c.args.disk.now text c.args.scripts.now c.in-Ok.loaded.shape says c.in-Ok.ensures.read c.sum_read.new.disk c.status_of_store.new.disk (g.K.Sink.written c.args.sink.now) c.in-Err-sum_read.fault c.status_of_store.result
    (λ t. c.status_of_store.ensures.told.1 (c.in-Err-sum_read.ensures.told.1 (c.in-Ok.ensures.told.1 t)))
    (λ sh R h. c.in-Err-sum_read.ensures.summed (meaning.clock c.args.disk.now) (meaning.files c.args.disk.now).data_bytes sh R (begins_with meaning c.args.disk.now c.recover.new.disk sh R c.in-Ok.loaded c.in-Ok.ensures.opened c.in-Ok.ensures.survives c.in-Ok.ensures.first h))
    c.status_of_store.ensures.stops
