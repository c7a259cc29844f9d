use Rattle.store_core.proofs.Lookups.{looked_on}
use Rattle.store_read.proofs.segment.read_segment.Goals as goal

pub returns-in-Ok-clause-looked : goal.returns-in-Ok-clause-looked
returns-in-Ok-clause-looked g c = looked_on g.D.Disk.meaning c.args.store.now c.find_header.new.store c.segment_at.new.store c.in-Ok.header c.segment_at.result c.in-Ok.ensures.looked c.segment_at.ensures.looked
