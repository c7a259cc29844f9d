use Rattle.std.proofs.Common.{IfOk, subst}
use Rattle.seg_words.specs.Types.{Shape}
use Rattle.segment_read.specs.declared.segment.Segment.{Segment}
use Rattle.store_core.proofs.Lookups.{looked_on, looked_err}
use Rattle.space_usage.specs.Counting.{IsUsage}
use Rattle.space_usage.proofs.Walks.{knows_read}
use Rattle.space_usage.proofs.counting.usage.Goals as goal

pub returns-in-Ok-clause-looked : goal.returns-in-Ok-clause-looked
returns-in-Ok-clause-looked g c = looked_on g.D.Disk.meaning c.args.store.now c.read_segment.new.store c.count_blocks.new.store c.in-Ok.segment c.count_blocks.result c.in-Ok.ensures.looked c.count_blocks.ensures.looked

pub returns-in-Ok-clause-says : goal.returns-in-Ok-clause-says
returns-in-Ok-clause-says g c = λ R t i. subst (λ (sh : Shape). IfOk c.count_blocks.result (IsUsage sh R c.args.obj)) c.shape-shape.ensures
    (c.count_blocks.ensures.says R c.args.obj (knows_read g.D.Disk.meaning c.args.store.now c.read_segment.new.store R c.args.obj c.shape-shape.result c.in-Ok.segment c.shape-shape.ensures c.in-Ok.ensures.looked t i (c.in-Ok.ensures.says R t i)))

pub returns-in-Ok-clause-sound : goal.returns-in-Ok-clause-sound
returns-in-Ok-clause-sound g c = λ R t i n. c.count_blocks.ensures.sound R c.args.obj (knows_read g.D.Disk.meaning c.args.store.now c.read_segment.new.store R c.args.obj c.shape-shape.result c.in-Ok.segment c.shape-shape.ensures c.in-Ok.ensures.looked t i (c.in-Ok.ensures.says R t i))

pub returns-in-Err-clause-looked : goal.returns-in-Err-clause-looked
returns-in-Err-clause-looked g c = looked_err {A = Segment} g.D.Disk.meaning c.args.store.now c.read_segment.new.store c.in-Err.fault c.in-Err.ensures.looked

pub count_blocks-requires-clause-unspent : goal.count_blocks-requires-clause-unspent
count_blocks-requires-clause-unspent g c = c.in-Ok.ensures.looked.cause.kept c.in-Ok.ensures.looked.cause.goes_on
