use Rattle.std.proofs.Common.{sym, true≢false}
use Rattle.store_core.proofs.Lookups.{refused_after}
use Rattle.free_search.proofs.Known.{fixed, knows_later, row_has}
use Rattle.free_search.proofs.place.takes.Goals as goal

pub returns-in-Err-clause-sound : goal.returns-in-Err-clause-sound
returns-in-Err-clause-sound g c = λ R t k x n. c.in-Err.ensures.sound R t.list n (row_has c.args.store.now.shape R c.args.look.now c.args.dba k (fixed g.D.Disk.meaning c.args.store.now R c.args.look.now t k) x)

pub returns-in-Ok-told_room-clause-says : goal.returns-in-Ok-told_room-clause-says
returns-in-Ok-told_room-clause-says g c = λ R t k x. c.in-Ok-told_room.ensures.says R (c.in-Ok.ensures.looked.stays_true R t) (knows_later g.D.Disk.meaning c.args.store.now c.fetch.new.self R c.args.look.now c.in-Ok.ensures.looked.loan k) x

pub returns-in-Err-told_room-clause-looked : goal.returns-in-Err-told_room-clause-looked
returns-in-Err-told_room-clause-looked g c = refused_after g.D.Disk.meaning c.args.store.now c.fetch.new.self c.refuse.new.self c.in-Ok.field-0 c.refuse.result c.in-Ok.ensures.looked c.refuse.ensures.looked

pub returns-in-Err-told_room-clause-sound : goal.returns-in-Err-told_room-clause-sound
returns-in-Err-told_room-clause-sound g c = λ R t k x n. absurd (true≢false (sym (c.in-Err-told_room.ensures.right R (c.in-Ok.ensures.looked.stays_true R t) (knows_later g.D.Disk.meaning c.args.store.now c.fetch.new.self R c.args.look.now c.in-Ok.ensures.looked.loan k) x)))
