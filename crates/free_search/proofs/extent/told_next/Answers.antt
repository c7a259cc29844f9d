use Rattle.free_search.proofs.Bests.{second_says}
use Rattle.free_search.proofs.extent.told_next.Goals as goal

pub returns-clause-says : goal.returns-clause-says
returns-clause-says g c = λ R o e t at is. c.next_in.ensures.says c.args.store.now.shape R o c.args.start (second_says c.args.store.now.shape R o c.args.start c.args.second e c.frame.result.now t.list.within t.lawful c.requires.group at is (c.frame.ensures R t.list))

pub returns-clause-right : goal.returns-clause-right
returns-clause-right g c = λ R o e t at is l. c.next_in.ensures.right c.args.store.now.shape R o c.args.start (second_says c.args.store.now.shape R o c.args.start c.args.second e c.frame.result.now t.list.within t.lawful c.requires.group at is (c.frame.ensures R t.list)) l
