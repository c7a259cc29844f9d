use Rattle.pool_store.proofs.Takes.{not_taken, device_of_page}
use Rattle.pool_store.proofs.putting.prepared.Goals as goal

pub returns-in-Ok-clause-fits : goal.returns-in-Ok-clause-fits
returns-in-Ok-clause-fits g c = c.in-Ok.ensures.all_fit

pub returns-in-Err-clause-unfit : goal.returns-in-Err-clause-unfit
returns-in-Err-clause-unfit g c = λ log R m h is. not_taken c.args.pages.now.shape R c.args.rec.now c.in-Err.fault c.of_page.result c.of_page.ensures.same (c.in-Err.ensures.unfit log R m h is)

pub returns-in-Err-clause-cause : goal.returns-in-Err-clause-cause
returns-in-Err-clause-cause g c = record { later = c.in-Err.ensures.cause.later; rose = λ is. c.in-Err.ensures.cause.rose (device_of_page c.in-Err.fault c.of_page.result c.of_page.ensures.device is) }
