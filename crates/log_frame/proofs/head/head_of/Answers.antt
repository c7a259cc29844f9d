use Rattle.std.proofs.Common.{sym, ◌∙◌, ap, refl}
use Rattle.log_frame.specs.Types.{shape_found}
use Rattle.log_frame.proofs.HeadLemmas.{front_is, formatted}
use Rattle.log_frame.proofs.head.head_of.Goals as goal

pub returns-in-Ok-shape_of-clause-found : goal.returns-in-Ok-shape_of-clause-found
returns-in-Ok-shape_of-clause-found g c told =
    let bytes = (g.D.Disk.meaning.files c.args.disk.now).log_bytes in
    let buf = c.read.new.buf in
    let count = c.in-Ok.count in (
      formatted bytes buf _ count (c.in-Ok.ensures.count told) (c.in-Ok.ensures.bytes told) refl c.if-count-lt-LOG_HEAD_SIZE.false c.if-bytes-ne1.false,
      ap shape_found (sym (front_is bytes buf _ count (c.in-Ok.ensures.count told) (c.in-Ok.ensures.bytes told) refl c.if-count-lt-LOG_HEAD_SIZE.false)) ∙ sym c.shape_of.ensures ∙ c.in-Ok-shape_of.is,
    )

pub returns-in-Err-clause-found : goal.returns-in-Err-clause-found
returns-in-Err-clause-found g c told =
    let bytes = (g.D.Disk.meaning.files c.args.disk.now).log_bytes in
    let buf = c.read.new.buf in
    let count = c.in-Ok.count in (
      formatted bytes buf _ count (c.in-Ok.ensures.count told) (c.in-Ok.ensures.bytes told) refl c.if-count-lt-LOG_HEAD_SIZE.false c.if-bytes-ne1.false,
      ap shape_found (sym (front_is bytes buf _ count (c.in-Ok.ensures.count told) (c.in-Ok.ensures.bytes told) refl c.if-count-lt-LOG_HEAD_SIZE.false)) ∙ sym c.shape_of.ensures ∙ c.in-Err.is,
    )
