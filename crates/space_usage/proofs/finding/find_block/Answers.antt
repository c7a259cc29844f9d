use Rattle.std.proofs.Common.{Bool, Ok, Err}
use Rattle.segment_read.specs.declared.segment.Segment.{Segment}
use Rattle.store_core.proofs.Lookups.{looked_on, looked_ok, looked_err}
use Rattle.space_usage.proofs.Fixes.{segment_told, no_segment_told}
use Rattle.space_usage.proofs.Walks.{knows_read}
use Rattle.space_usage.proofs.finding.find_block.Goals as goal

pub returns-in-Err-clause-looked : goal.returns-in-Err-clause-looked
returns-in-Err-clause-looked g c = looked_err {A = Segment} g.D.Disk.meaning c.args.store.now c.read_segment.new.store c.in-Err.fault c.in-Err.ensures.looked

pub returns-in-Err-clause-sound : goal.returns-in-Err-clause-sound
returns-in-Err-clause-sound g c = λ R t i n. c.in-Err.ensures.sound R t i n

pub returns-in-Ok-true-clause-looked : goal.returns-in-Ok-true-clause-looked
returns-in-Ok-true-clause-looked g c = looked_ok g.D.Disk.meaning c.args.store.now c.is_row_block.new.store c.in-Ok-true.field-0 _ (looked_on g.D.Disk.meaning c.args.store.now c.read_segment.new.store c.is_row_block.new.store c.in-Ok.segment (Ok c.in-Ok-true.field-0) c.in-Ok.ensures.looked c.in-Ok-true.ensures.looked)

pub returns-in-Ok-true-clause-says : goal.returns-in-Ok-true-clause-says
returns-in-Ok-true-clause-says g c = λ R t i.
    let is = c.in-Ok.ensures.says R t i in
    let k = knows_read g.D.Disk.meaning c.args.store.now c.read_segment.new.store R c.args.obj c.shape-shape.result c.in-Ok.segment c.shape-shape.ensures c.in-Ok.ensures.looked t i is in
    segment_told c.args.store.now.shape c.shape-shape.result R c.args.obj c.args.dba c.in-Ok.segment c.in-Ok-true.field-0 c.shape-shape.ensures is (c.in-Ok-true.ensures.says R c.args.obj k) c.in-Ok-true.field-0-test

pub returns-in-Ok-false-clause-looked : goal.returns-in-Ok-false-clause-looked
returns-in-Ok-false-clause-looked g c = looked_ok g.D.Disk.meaning c.args.store.now c.is_row_block.new.store c.in-Ok-false.field-0 _ (looked_on g.D.Disk.meaning c.args.store.now c.read_segment.new.store c.is_row_block.new.store c.in-Ok.segment (Ok c.in-Ok-false.field-0) c.in-Ok.ensures.looked c.in-Ok-false.ensures.looked)

pub returns-in-Ok-false-clause-says : goal.returns-in-Ok-false-clause-says
returns-in-Ok-false-clause-says g c = λ R t i.
    let is = c.in-Ok.ensures.says R t i in
    let k = knows_read g.D.Disk.meaning c.args.store.now c.read_segment.new.store R c.args.obj c.shape-shape.result c.in-Ok.segment c.shape-shape.ensures c.in-Ok.ensures.looked t i is in
    no_segment_told c.args.store.now.shape c.shape-shape.result R c.args.obj c.args.dba c.in-Ok-false.field-0 c.shape-shape.ensures (c.in-Ok-false.ensures.says R c.args.obj k) c.in-Ok-false.field-0-test

pub returns-in-Err-is_row_block-clause-looked : goal.returns-in-Err-is_row_block-clause-looked
returns-in-Err-is_row_block-clause-looked g c = looked_on g.D.Disk.meaning c.args.store.now c.read_segment.new.store c.is_row_block.new.store c.in-Ok.segment (Err c.in-Err-is_row_block.fault) c.in-Ok.ensures.looked (looked_err {A = Bool} g.D.Disk.meaning c.read_segment.new.store c.is_row_block.new.store c.in-Err-is_row_block.fault c.in-Err-is_row_block.ensures.looked)

pub returns-in-Err-is_row_block-clause-sound : goal.returns-in-Err-is_row_block-clause-sound
returns-in-Err-is_row_block-clause-sound g c = λ R t i n.
    let k = knows_read g.D.Disk.meaning c.args.store.now c.read_segment.new.store R c.args.obj c.shape-shape.result c.in-Ok.segment c.shape-shape.ensures c.in-Ok.ensures.looked t i (c.in-Ok.ensures.says R t i) in
    c.in-Err-is_row_block.ensures.sound R c.args.obj k (c.in-Ok.ensures.looked.cause.kept n)
