use Rattle.std.proofs.Common.{ap, sym, subst, Err}
use Rattle.assm.specs.declared.status.Status.{Status}
use Rattle.store_files.specs.declared.fault.OpenFault.{OpenFault}
use Rattle.assm.specs.Checks.{CheckTells}
use Rattle.assm.proofs.Told.{not_opened, begins_with}
use Rattle.assm.proofs.Counted.{check_not_opened, check_printed, check_stopped}
use Rattle.assm.proofs.checking.check_store.Goals as goal

pub returns-in-Err-clause-tells : goal.returns-in-Err-clause-tells
returns-in-Err-clause-tells g c =
    let meaning = g.D.Disk.meaning in
    let written = g.K.Sink.written c.args.sink.now in
    subst (λ (s : Status). CheckTells meaning c.args.disk.now c.recover.new.disk written written s) (sym c.from.ensures)
    (check_not_opened meaning c.args.disk.now c.recover.new.disk written c.in-Err.fault
    (not_opened meaning c.args.disk.now c.recover.new.disk written c.in-Err.fault c.in-Err.ensures.refused c.in-Err.ensures.shows c.in-Err.ensures.sound c.in-Err.ensures.any_moment)
    (λ e. c.in-Err.ensures.only (ap (λ (f : OpenFault). Err f) e)))

pub returns-in-Ok-count_read-clause-tells : goal.returns-in-Ok-count_read-clause-tells
returns-in-Ok-count_read-clause-tells g c =
    let meaning = g.D.Disk.meaning in
    check_printed meaning c.args.disk.now c.in-Ok.loaded.shape c.in-Ok.ensures.read c.count_read.new.disk (g.K.Sink.written c.args.sink.now) (g.K.Sink.written c.print_counts.new.sink) c.in-Ok-count_read.counts c.print_counts.result
    (λ sh R h. c.in-Ok-count_read.ensures.counted (meaning.clock c.args.disk.now) (meaning.files c.args.disk.now).data_bytes sh R (begins_with meaning c.args.disk.now c.recover.new.disk sh R c.in-Ok.loaded c.in-Ok.ensures.opened c.in-Ok.ensures.survives c.in-Ok.ensures.first h))
    c.print_counts.ensures.prints

pub returns-in-Err-count_read-clause-tells : goal.returns-in-Err-count_read-clause-tells
returns-in-Err-count_read-clause-tells g c =
    let meaning = g.D.Disk.meaning in
    check_stopped meaning c.args.disk.now c.in-Ok.loaded.shape c.in-Ok.ensures.read c.count_read.new.disk c.status_of_store.new.disk (g.K.Sink.written c.args.sink.now) c.in-Err-count_read.fault c.status_of_store.result
    (λ t. c.status_of_store.ensures.told.1 (c.in-Err-count_read.ensures.told.1 (c.in-Ok.ensures.told.1 t)))
    (λ sh R h. c.in-Err-count_read.ensures.counted (meaning.clock c.args.disk.now) (meaning.files c.args.disk.now).data_bytes sh R (begins_with meaning c.args.disk.now c.recover.new.disk sh R c.in-Ok.loaded c.in-Ok.ensures.opened c.in-Ok.ensures.survives c.in-Ok.ensures.first h))
    c.status_of_store.ensures.stops
