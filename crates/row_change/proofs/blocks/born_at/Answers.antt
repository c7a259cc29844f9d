use Rattle.store_core.proofs.Lookups.{looked_on}
use Rattle.row_change.proofs.Having.{some_extent}
use Rattle.row_change.proofs.Searching.{still_unspent}
use Rattle.row_change.proofs.Positions.{first_at}
use Rattle.row_change.proofs.blocks.born_at.Goals as goal

pub returns-in-Err-clause-sound : goal.returns-in-Err-clause-sound
returns-in-Err-clause-sound g c = λ R o e t h at n. c.in-Err.ensures.sound R o e t h at (some_extent c.args.store.now.shape R o c.args.search.now h) n

pub returns-in-Ok-clause-looked : goal.returns-in-Ok-clause-looked
returns-in-Ok-clause-looked g c = looked_on g.D.Disk.meaning c.args.store.now c.block_at.new.store c.born_in.new.store c.in-Ok.first c.born_in.result c.in-Ok.ensures.looked c.born_in.ensures.looked

pub returns-in-Ok-clause-says : goal.returns-in-Ok-clause-says
returns-in-Ok-clause-says g c = λ R o e t h at. c.born_in.ensures.says R o c.args.index e (c.in-Ok.ensures.looked.stays_true R t) at (first_at c.args.store.now.shape c.block_at.new.store.shape R o c.args.search.now e c.in-Ok.first c.in-Ok.ensures.looked.loan.shape h (c.in-Ok.ensures.says R o e t h at))

pub returns-in-Ok-clause-sound : goal.returns-in-Ok-clause-sound
returns-in-Ok-clause-sound g c = λ R o e t h at n. c.born_in.ensures.sound R o c.args.index e (c.in-Ok.ensures.looked.stays_true R t) h.there at (first_at c.args.store.now.shape c.block_at.new.store.shape R o c.args.search.now e c.in-Ok.first c.in-Ok.ensures.looked.loan.shape h (c.in-Ok.ensures.says R o e t h at)) (still_unspent g.D.Disk.meaning c.args.store.now c.block_at.new.store c.in-Ok.first c.in-Ok.ensures.looked)
