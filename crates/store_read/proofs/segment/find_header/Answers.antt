use Rattle.store_read.proofs.Truth.{catalogue_has}
use Rattle.store_core.proofs.Lookups.{refused_after}
use Rattle.store_read.proofs.segment.find_header.Goals as goal

pub returns-in-Err-clause-sound : goal.returns-in-Err-clause-sound
returns-in-Err-clause-sound g c = λ R t i n. c.in-Err.ensures.sound R t.list n (catalogue_has c.args.store.now.shape t.list.within)

pub returns-in-Err-told_header-clause-looked : goal.returns-in-Err-told_header-clause-looked
returns-in-Err-told_header-clause-looked g c = refused_after g.D.Disk.meaning c.args.store.now c.fetch.new.self c.refuse.new.self c.in-Ok.field-0 c.refuse.result c.in-Ok.ensures.looked c.refuse.ensures.looked
