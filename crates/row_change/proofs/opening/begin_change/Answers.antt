use Rattle.std.proofs.Common.{Ok, Err}
use Rattle.store_core.proofs.Lookups.{looked_on, looked_ok, looked_err}
use Rattle.row_change.proofs.opening.begin_change.Goals as goal

pub returns-in-Err-clause-sound : goal.returns-in-Err-clause-sound
returns-in-Err-clause-sound g c = λ R o t i m n. c.in-Err.ensures.sound R t n

pub returns-in-Ok-find_actor-clause-looked : goal.returns-in-Ok-find_actor-clause-looked
returns-in-Ok-find_actor-clause-looked g c = looked_ok g.D.Disk.meaning c.args.store.now c.find_actor.new.store c.in-Ok-find_actor.actor _ (looked_on g.D.Disk.meaning c.args.store.now c.copy_table.new.self c.find_actor.new.store c.in-Ok.table (Ok c.in-Ok-find_actor.actor) c.in-Ok.ensures.looked c.in-Ok-find_actor.ensures.looked)

pub returns-in-Ok-find_actor-clause-says : goal.returns-in-Ok-find_actor-clause-says
returns-in-Ok-find_actor-clause-says g c = λ R t m. (let k = c.in-Ok.ensures.holds R t in record { table = k; actor = c.in-Ok-find_actor.ensures.says R (c.in-Ok.ensures.looked.stays_true R t) k m })

pub returns-in-Err-find_actor-clause-looked : goal.returns-in-Err-find_actor-clause-looked
returns-in-Err-find_actor-clause-looked g c = looked_on g.D.Disk.meaning c.args.store.now c.copy_table.new.self c.find_actor.new.store c.in-Ok.table (Err c.in-Err-find_actor.fault) c.in-Ok.ensures.looked (looked_err g.D.Disk.meaning c.copy_table.new.self c.find_actor.new.store c.in-Err-find_actor.fault c.in-Err-find_actor.ensures.looked)

pub returns-in-Err-find_actor-clause-sound : goal.returns-in-Err-find_actor-clause-sound
returns-in-Err-find_actor-clause-sound g c = λ R o t i m n. c.in-Err-find_actor.ensures.sound R o (c.in-Ok.ensures.looked.stays_true R t) (c.in-Ok.ensures.holds R t) i m
