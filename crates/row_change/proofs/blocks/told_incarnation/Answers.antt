use Rattle.row_change.proofs.Having.{first_told}
use Rattle.row_change.proofs.blocks.told_incarnation.Goals as goal

pub returns-clause-says : goal.returns-clause-says
returns-clause-says g c = λ R o index e t at is. c.incarnation_in.ensures.says c.args.store.now.shape R index e (first_told c.args.store.now.shape R o index c.args.first e c.frame.result.now t.list.within t.lawful at is (c.frame.ensures R t.list))

pub returns-clause-right : goal.returns-clause-right
returns-clause-right g c = λ R o index e t at is. c.incarnation_in.ensures.right c.args.store.now.shape R index e (first_told c.args.store.now.shape R o index c.args.first e c.frame.result.now t.list.within t.lawful at is (c.frame.ensures R t.list))
