use Rattle.std.proofs.Common.{sym, true≢false}
use Rattle.store_core.proofs.Lookups.{refused_after}
use Rattle.row_change.proofs.Having.{header_has}
use Rattle.row_change.proofs.Searching.{search_on}
use Rattle.row_change.proofs.blocks.block_at.Goals as goal

pub returns-in-Err-clause-sound : goal.returns-in-Err-clause-sound
returns-in-Err-clause-sound g c = λ R o e t h at l n. c.in-Err.ensures.sound R t.list n (header_has c.args.store.now.shape R o c.args.search.now h)

pub returns-in-Ok-told_block-clause-says : goal.returns-in-Ok-told_block-clause-says
returns-in-Ok-told_block-clause-says g c = λ R o e t h at. c.in-Ok-told_block.ensures.says R o e (c.in-Ok.ensures.looked.stays_true R t) (search_on g.D.Disk.meaning c.args.store.now c.fetch.new.self _ R o c.args.search.now c.in-Ok.ensures.looked h) at

pub returns-in-Err-told_block-clause-looked : goal.returns-in-Err-told_block-clause-looked
returns-in-Err-told_block-clause-looked g c = refused_after g.D.Disk.meaning c.args.store.now c.fetch.new.self c.refuse.new.self c.in-Ok.field-0 c.refuse.result c.in-Ok.ensures.looked c.refuse.ensures.looked

pub returns-in-Err-told_block-clause-sound : goal.returns-in-Err-told_block-clause-sound
returns-in-Err-told_block-clause-sound g c = λ R o e t h at l n. absurd (true≢false (sym (c.in-Err-told_block.ensures.right R o e (c.in-Ok.ensures.looked.stays_true R t) (search_on g.D.Disk.meaning c.args.store.now c.fetch.new.self _ R o c.args.search.now c.in-Ok.ensures.looked h) at l)))
