use Rattle.std.proofs.Common.{◌≡◌, true, sym, subst}
use Rattle.seg_words.specs.Types.{Shape}
use Rattle.pool_store.specs.Store.{has_page}
use Rattle.pool_store.proofs.Lookups.{looked_on}
use Rattle.pool_store.proofs.store.Store.fetch.Goals as goal

pub returns-in-Ok-clause-looked : goal.returns-in-Ok-clause-looked
returns-in-Ok-clause-looked g c = looked_on g.D.Disk.meaning c.args.self.now c.spare.new.self c.bring.new.self tt c.bring.result c.in-Ok.ensures.looked c.bring.ensures.looked

pub returns-in-Ok-clause-sound : goal.returns-in-Ok-clause-sound
returns-in-Ok-clause-sound g c = λ R t unspent has. c.bring.ensures.sound R (c.in-Ok.ensures.looked.stays_true R t) (subst (λ (sh : Shape). has_page sh c.args.dba ≡ true) (sym c.in-Ok.ensures.looked.loan.shape) has)

pub returns-in-Err-clause-sound : goal.returns-in-Err-clause-sound
returns-in-Err-clause-sound g c = λ R t unspent has. c.in-Err.ensures.sound R t unspent
