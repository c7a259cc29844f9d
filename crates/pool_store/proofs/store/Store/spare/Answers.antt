use Rattle.std.proofs.Common.{sym, subst}
use Rattle.pool_store.specs.Causes.{IsSoundFault}
use Rattle.pool_store.proofs.Lookups.{looked_on}
use Rattle.pool_store.proofs.store.Store.spare.Goals as goal

pub returns-in-Ok-clause-looked : goal.returns-in-Ok-clause-looked
returns-in-Ok-clause-looked g c = looked_on g.D.Disk.meaning c.args.self.now c.flush_log.new.self c.put_spare.new.self tt c.put_spare.result c.in-Ok.ensures.looked c.put_spare.ensures.looked

pub returns-in-Ok-clause-sound : goal.returns-in-Ok-clause-sound
returns-in-Ok-clause-sound g c = λ R t unspent. c.put_spare.ensures.sound R (c.in-Ok.ensures.looked.stays_true R t) (c.in-Ok.ensures.stable R t.list)

pub returns-in-Err-clause-sound : goal.returns-in-Err-clause-sound
returns-in-Err-clause-sound g c = λ R t unspent. subst IsSoundFault (sym (c.in-Err.ensures.only unspent)) tt
