use Rattle.std.proofs.Common.{ℕ, List, ◌∙◌, ap, sym, subst, Err}
use Rattle.std.specs.Io.KnownBytes.{Appends}
use Rattle.text_port.specs.Whole.{AppendsPrefix}
use Rattle.assm.specs.declared.status.Status.{Status}
use Rattle.store_files.specs.declared.fault.OpenFault.{OpenFault}
use Rattle.assm.specs.Top.{FormatTells}
use Rattle.assm.proofs.Made.{makes, format_fails}
use Rattle.assm.proofs.making.format_store.Goals as goal

pub returns-in-Err-clause-tells : goal.returns-in-Err-clause-tells
returns-in-Err-clause-tells g c =
    let meaning = g.D.Disk.meaning in
    let written = g.K.Sink.written c.args.sink.now in
    subst (λ (s : Status). FormatTells meaning c.args.disk.now c.format.new.disk written written c.args.shape.now s) (sym c.from.ensures)
    (format_fails meaning c.args.disk.now c.format.new.disk written c.args.shape.now c.in-Err.fault c.in-Err.ensures.only c.in-Err.ensures.answer c.in-Err.ensures.any_moment (λ e. c.in-Err.ensures.refused (ap (λ (f : OpenFault). Err f) e)))

pub returns-in-Ok-write_all-clause-tells : goal.returns-in-Ok-write_all-clause-tells
returns-in-Ok-write_all-clause-tells g c =
    let meaning = g.D.Disk.meaning in
    let text = c.deref.ensures.value ∙ c.in-Ok.ensures in
    (subst (λ (z : List ℕ). Appends (g.K.Sink.written c.args.sink.now) (g.K.Sink.written c.write_all.new.sink) z) text c.in-Ok-write_all.ensures.all, makes meaning c.args.disk.now c.format.new.disk c.args.shape.now c.in-Ok-format.ensures.any_moment c.in-Ok-format.ensures.answer c.in-Ok-format.ensures.made)

pub returns-clause-tells : goal.returns-clause-tells
returns-clause-tells g c =
    let meaning = g.D.Disk.meaning in
    let text = c.deref.ensures.value ∙ c.in-Ok.ensures in
    (subst (λ (z : List ℕ). AppendsPrefix (g.K.Sink.written c.args.sink.now) (g.K.Sink.written c.write_all.new.sink) z) text c.in-Err-write_all.ensures.part, makes meaning c.args.disk.now c.format.new.disk c.args.shape.now c.in-Ok-format.ensures.any_moment c.in-Ok-format.ensures.answer c.in-Ok-format.ensures.made)
