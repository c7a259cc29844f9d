use Rattle.std.specs.Prelude.{Ok, Err}
use Rattle.store_core.proofs.Lookups.{looked_on, looked_ok, looked_err}
use Rattle.assm.proofs.checking.count_store.Goals as goal

pub returns-in-Err-clause-sound : goal.returns-in-Err-clause-sound
returns-in-Err-clause-sound g c = λ R t. c.in-Err.ensures.sound R t c.requires.unspent

pub returns-in-Ok-count_inexact-clause-looked : goal.returns-in-Ok-count_inexact-clause-looked
returns-in-Ok-count_inexact-clause-looked g c = looked_ok g.D.Disk.meaning c.args.store.now c.count_inexact.new.store c.in-Ok-count_inexact.inexact _ (looked_on g.D.Disk.meaning c.args.store.now c.count_tables.new.store c.count_inexact.new.store c.in-Ok.tables (Ok c.in-Ok-count_inexact.inexact) c.in-Ok.ensures.looked c.in-Ok-count_inexact.ensures.looked)

pub returns-in-Err-count_inexact-clause-looked : goal.returns-in-Err-count_inexact-clause-looked
returns-in-Err-count_inexact-clause-looked g c = looked_on g.D.Disk.meaning c.args.store.now c.count_tables.new.store c.count_inexact.new.store c.in-Ok.tables (Err c.in-Err-count_inexact.fault) c.in-Ok.ensures.looked (looked_err g.D.Disk.meaning c.count_tables.new.store c.count_inexact.new.store c.in-Err-count_inexact.fault c.in-Err-count_inexact.ensures.looked)

pub returns-in-Err-count_inexact-clause-sound : goal.returns-in-Err-count_inexact-clause-sound
returns-in-Err-count_inexact-clause-sound g c = λ R t. c.in-Err-count_inexact.ensures.sound R (c.in-Ok.ensures.looked.stays_true R t) (c.in-Ok.ensures.says R t)
