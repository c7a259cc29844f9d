use Rattle.store_read.proofs.Truth.{header_at_has}
use Rattle.store_core.proofs.Lookups.{refused_after}
use Rattle.store_read.proofs.segment.segment_at.Goals as goal

pub returns-in-Err-clause-sound : goal.returns-in-Err-clause-sound
returns-in-Err-clause-sound g c = λ R o t i at n. c.in-Err.ensures.sound R t.list n (header_at_has c.args.store.now.shape R o c.args.header t.list.within t.lawful i at)

pub returns-in-Err-told_segment-clause-looked : goal.returns-in-Err-told_segment-clause-looked
returns-in-Err-told_segment-clause-looked g c = refused_after g.D.Disk.meaning c.args.store.now c.fetch.new.self c.refuse.new.self c.in-Ok.field-0 c.refuse.result c.in-Ok.ensures.looked c.refuse.ensures.looked
