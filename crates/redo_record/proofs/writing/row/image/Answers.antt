use Rattle.redo_record.proofs.Adding.{image_added}
use Rattle.redo_record.proofs.writing.row.image.Goals as goal

pub returns : goal.returns
returns c = image_added c.args.slot.now c.args.out.now.items c.bytes.new.out.items c.bytes-2.new.out.items c.slot_bytes.result c.as_slice.result.now c.slot_bytes.ensures c.as_slice.ensures c.in_ok-bytes.ensures c.in_ok-bytes-2.ensures
