use Rattle.std.proofs.Common.{ap, sym, subst, Err}
use Rattle.assm.specs.declared.status.Status.{Status}
use Rattle.store_files.specs.declared.fault.OpenFault.{OpenFault}
use Rattle.assm.specs.Top.{RunTells}
use Rattle.assm.proofs.Told.{not_opened, open_tells, begins_with, run_tells}
use Rattle.assm.proofs.run.run_text.Goals as goal

pub returns-in-Err-recover-clause-tells : goal.returns-in-Err-recover-clause-tells
returns-in-Err-recover-clause-tells g c =
    let meaning = g.D.Disk.meaning in
    let written = g.K.Sink.written c.args.sink.now in
    subst (λ (s : Status). RunTells meaning c.args.disk.now c.recover.new.disk written written s c.args.text.now) (sym c.from-in-Err-recover.ensures)
    (open_tells meaning c.args.disk.now c.recover.new.disk written c.args.text.now c.in-Err-recover.fault (_, c.in-Ok.ensures.read)
    (not_opened meaning c.args.disk.now c.recover.new.disk written c.in-Err-recover.fault c.in-Err-recover.ensures.refused c.in-Err-recover.ensures.shows c.in-Err-recover.ensures.sound c.in-Err-recover.ensures.any_moment)
    (λ e. c.in-Err-recover.ensures.only (ap (λ (f : OpenFault). Err f) e)))

pub returns-clause-tells : goal.returns-clause-tells
returns-clause-tells g c =
    let meaning = g.D.Disk.meaning in
    run_tells meaning c.args.disk.now c.run_opened.new.disk (g.K.Sink.written c.args.sink.now) (g.K.Sink.written c.run_opened.new.sink) c.args.text.now c.in-Ok.scripts c.in-Ok-recover.loaded.shape c.run_opened.result c.in-Ok.ensures.read c.in-Ok-recover.ensures.read
    (λ t. c.run_opened.ensures.told.1 (c.in-Ok-recover.ensures.told.1 t)) c.run_opened.ensures.only
    (λ sh R h. c.run_opened.ensures.ends (meaning.clock c.args.disk.now) (meaning.files c.args.disk.now).data_bytes sh R
    (begins_with meaning c.args.disk.now c.recover.new.disk sh R c.in-Ok-recover.loaded c.in-Ok-recover.ensures.opened c.in-Ok-recover.ensures.survives c.in-Ok-recover.ensures.first h))
