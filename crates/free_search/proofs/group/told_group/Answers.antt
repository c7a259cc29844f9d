use Rattle.free_search.proofs.Thirds.{third_says}
use Rattle.free_search.proofs.group.told_group.Goals as goal

pub returns-clause-says : goal.returns-clause-says
returns-clause-says g c = λ R o e t at is. c.best_of_group.ensures.says c.args.store.now.shape R o (third_says c.args.store.now.shape R o c.args.third e c.frame.result.now t.list.within t.lawful at is (c.frame.ensures R t.list))

pub returns-clause-right : goal.returns-clause-right
returns-clause-right g c = λ R o e t at is l. c.best_of_group.ensures.right c.args.store.now.shape R o (third_says c.args.store.now.shape R o c.args.third e c.frame.result.now t.list.within t.lawful at is (c.frame.ensures R t.list)) l
