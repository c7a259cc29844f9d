use Rattle.std.proofs.Common.{◌∷◌, ℕ}
use Rattle.space_usage.proofs.Stored.{was_added, not_added, tried_added, tried_refused}
use Rattle.space_usage.proofs.adding.add.Goals as goal

pub returns-in-Ok-clause-adds : goal.returns-in-Ok-clause-adds
returns-in-Ok-clause-adds g c = λ R t l. was_added g.D.Disk.meaning c.args.store.now c.take.new.self R (c.args.rec.now ∷ R) (c.in-Ok.ensures.added_true R t l) (c.in-Ok.ensures.stable R t.list) (λ since needed s. c.in-Ok.ensures.survives since needed R t s)

pub returns-in-Ok-clause-tried : goal.returns-in-Ok-clause-tried
returns-in-Ok-clause-tried g c = tried_added {A = ℕ} g.D.Disk.meaning c.args.store.now c.take.new.self c.in-Ok.field-0 c.in-Ok.ensures.stable c.in-Ok.ensures.loan c.in-Ok.ensures.cause

pub returns-in-Err-clause-adds : goal.returns-in-Err-clause-adds
returns-in-Err-clause-adds g c = λ R t l. not_added g.D.Disk.meaning c.args.store.now c.take.new.self R (c.args.rec.now ∷ R) c.in-Err.fault (c.in-Err.ensures.refused_true R t) (λ n. c.in-Err.ensures.sound R t l n) (c.in-Err.ensures.stable R t.list) (λ since needed s. c.in-Err.ensures.survives_refused since needed R t s)

pub returns-in-Err-clause-tried : goal.returns-in-Err-clause-tried
returns-in-Err-clause-tried g c = tried_refused {A = ℕ} g.D.Disk.meaning c.args.store.now c.take.new.self c.in-Err.fault c.in-Err.ensures.refused_true c.in-Err.ensures.survives_refused c.in-Err.ensures.stable c.in-Err.ensures.loan c.in-Err.ensures.cause
