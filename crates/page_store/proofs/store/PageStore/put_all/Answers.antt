use Rattle.page_store.proofs.store.PageStore.put_all.Goals as goal

pub returns-in-Ok-clause-any_moment : goal.returns-in-Ok-clause-any_moment
returns-in-Ok-clause-any_moment g c pages store = c.put_batch.ensures.any_moment c.args.self.now pages store c.requires

pub returns-in-Ok-clause-done : goal.returns-in-Ok-clause-done
returns-in-Ok-clause-done g c pages store = c.in-Ok.ensures.done c.args.self.now pages store c.requires

pub returns-in-Err-clause-any_moment : goal.returns-in-Err-clause-any_moment
returns-in-Err-clause-any_moment g c pages store = c.put_batch.ensures.any_moment c.args.self.now pages store c.requires
