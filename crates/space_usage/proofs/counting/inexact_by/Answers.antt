use Rattle.std.proofs.Common.{◌≡◌, IfOk, subst}
use Rattle.seg_words.specs.Types.{Shape}
use Rattle.segment_read.specs.declared.segment.Segment.{Segment}
use Rattle.store_core.proofs.Lookups.{looked_on, looked_err}
use Rattle.space_usage.specs.Counting.{inexact_count}
use Rattle.space_usage.proofs.Walks.{knows_read}
use Rattle.space_usage.proofs.counting.inexact_by.Goals as goal

pub returns-in-Ok-clause-looked : goal.returns-in-Ok-clause-looked
returns-in-Ok-clause-looked g c = looked_on g.D.Disk.meaning c.args.store.now c.read_segment.new.store c.count_inexact.new.store c.in-Ok.segment c.count_inexact.result c.in-Ok.ensures.looked c.count_inexact.ensures.looked

pub returns-in-Ok-clause-says : goal.returns-in-Ok-clause-says
returns-in-Ok-clause-says g c = λ R t i h. subst (λ (sh : Shape). IfOk c.count_inexact.result (λ n. n ≡ inexact_count sh R c.args.obj)) c.shape-shape.ensures
    (c.count_inexact.ensures.says R c.args.obj (knows_read g.D.Disk.meaning c.args.store.now c.read_segment.new.store R c.args.obj c.shape-shape.result c.in-Ok.segment c.shape-shape.ensures c.in-Ok.ensures.looked t i (c.in-Ok.ensures.says R t i)) h)

pub returns-in-Ok-clause-sound : goal.returns-in-Ok-clause-sound
returns-in-Ok-clause-sound g c = λ R t i h n. c.count_inexact.ensures.sound R c.args.obj (knows_read g.D.Disk.meaning c.args.store.now c.read_segment.new.store R c.args.obj c.shape-shape.result c.in-Ok.segment c.shape-shape.ensures c.in-Ok.ensures.looked t i (c.in-Ok.ensures.says R t i)) h

pub returns-in-Err-clause-looked : goal.returns-in-Err-clause-looked
returns-in-Err-clause-looked g c = looked_err {A = Segment} g.D.Disk.meaning c.args.store.now c.read_segment.new.store c.in-Err.fault c.in-Err.ensures.looked

pub count_inexact-requires-clause-unspent : goal.count_inexact-requires-clause-unspent
count_inexact-requires-clause-unspent g c = c.in-Ok.ensures.looked.cause.kept c.in-Ok.ensures.looked.cause.goes_on
