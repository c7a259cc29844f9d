use Rattle.store_read.proofs.Truth.{header_says}
use Rattle.store_read.proofs.blocks.told_extent.Goals as goal

pub returns-clause-says : goal.returns-clause-says
returns-clause-says g c = λ R o t i at. c.extent_in.ensures.says R o (header_says c.args.store.now.shape R o c.args.header c.frame.result.now t.list.within t.lawful i at (c.frame.ensures R t.list))

pub returns-clause-right : goal.returns-clause-right
returns-clause-right g c = λ R o t i at l. c.extent_in.ensures.right R o (header_says c.args.store.now.shape R o c.args.header c.frame.result.now t.list.within t.lawful i at (c.frame.ensures R t.list)) l
