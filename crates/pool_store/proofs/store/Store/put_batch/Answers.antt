use Rattle.std.proofs.Common.{◌≡◌, ◌+◌, ℕ, min, subst}
use Rattle.std.specs.Prelude.{IfOk}
use Rattle.buffer_pool.specs.Frames.{Pool}
use Rattle.pool_store.proofs.Lookups.{looked_on}
use Rattle.pool_store.proofs.store.Store.put_batch.Goals as goal

pub returns-in-Ok-clause-looked : goal.returns-in-Ok-clause-looked
returns-in-Ok-clause-looked g c = looked_on g.D.Disk.meaning c.args.self.now c.flush_log.new.self c.put_stable.new.self tt c.put_stable.result c.in-Ok.ensures.looked c.put_stable.ensures.looked

pub returns-in-Ok-clause-put : goal.returns-in-Ok-clause-put
returns-in-Ok-clause-put g c = subst (λ (p : Pool). IfOk c.put_stable.result (λ (n : ℕ). c.put_stable.new.self.pages.dirty + n ≡ p.dirty)) c.in-Ok.ensures.pages c.put_stable.ensures.put

pub returns-in-Ok-clause-many : goal.returns-in-Ok-clause-many
returns-in-Ok-clause-many g c = λ R t. subst (λ (p : Pool). IfOk c.put_stable.result (λ (n : ℕ). n ≡ min c.args.most p.dirty)) c.in-Ok.ensures.pages (c.put_stable.ensures.many R (c.in-Ok.ensures.looked.stays_true R t) (c.in-Ok.ensures.stable R t.list))
