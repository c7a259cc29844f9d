use Rattle.row_change.proofs.Having.{header_told, block_told, block_there, at_within}
use Rattle.row_change.proofs.blocks.told_block.Goals as goal

pub returns-in-Err-clause-right : goal.returns-in-Err-clause-right
returns-in-Err-clause-right g c = λ R o e t h at l. c.in-Err.ensures.right R o (header_told c.args.store.now.shape R o c.args.search.now c.frame.result.now h (c.frame.ensures R t.list)) (at_within _ c.args.place.now.index e at)

pub returns-in-None-clause-right : goal.returns-in-None-clause-right
returns-in-None-clause-right g c = λ R o e t h at l. absurd (block_there c.args.search.now.shape R o c.args.place.now.index c.args.place.now.nth c.in-Ok.extent h.lawful h.there (c.in-Ok.ensures.says R o (header_told c.args.store.now.shape R o c.args.search.now c.frame.result.now h (c.frame.ensures R t.list))) l c.in-None.ensures)

pub returns-in-Some-clause-says : goal.returns-in-Some-clause-says
returns-in-Some-clause-says g c = λ R o e t h at. block_told c.args.search.now.shape R o c.args.place.now.index c.args.place.now.nth c.in-Ok.extent c.in-Some.dba e (c.in-Ok.ensures.says R o (header_told c.args.store.now.shape R o c.args.search.now c.frame.result.now h (c.frame.ensures R t.list))) at c.in-Some.ensures
