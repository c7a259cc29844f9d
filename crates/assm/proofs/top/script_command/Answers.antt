use Rattle.std.proofs.Common.{◌≡◌, subst}
use Rattle.seg_words.specs.Types.{Shape}
use Rattle.assm.specs.Top.{FormatTells}
use Rattle.assm.proofs.top.script_command.Goals as goal

pub returns-in-Some-Format-clause-format : goal.returns-in-Some-Format-clause-format
returns-in-Some-Format-clause-format g c = λ shape e.
    let value = c.command_in.ensures.value in
    let is = c.in-Some-Format.is in
    let asked = c.in-Some-Format.field-0-is in
    let same : c.in-Some-Format.shape ≡ shape = cc in
    subst (λ (s : Shape). FormatTells g.D.Disk.meaning c.args.disk.now c.format_store.new.disk (g.K.Sink.written c.args.sink.now) (g.K.Sink.written c.format_store.new.sink) s c.format_store.result) same c.format_store.ensures.tells
