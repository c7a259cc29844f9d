use Rattle.store_read.proofs.Truth.{catalogue_says}
use Rattle.store_read.proofs.segment.told_tables.Goals as goal

pub returns-clause-says : goal.returns-clause-says
returns-clause-says g c = λ R t. c.tables_in.ensures.says c.args.store.now.shape R (catalogue_says c.args.store.now.shape R c.frame.result.now t.list.within t.lawful (c.frame.ensures R t.list))

pub returns-clause-right : goal.returns-clause-right
returns-clause-right g c = λ R t. c.tables_in.ensures.right c.args.store.now.shape R (catalogue_says c.args.store.now.shape R c.frame.result.now t.list.within t.lawful (c.frame.ensures R t.list))
