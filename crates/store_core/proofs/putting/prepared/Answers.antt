use Rattle.store_core.proofs.Takes.{not_taken}
use Rattle.store_core.proofs.putting.prepared.Goals as goal

pub returns-in-Ok-clause-fits : goal.returns-in-Ok-clause-fits
returns-in-Ok-clause-fits c = c.in-Ok.ensures.all_fit

pub returns-in-Err-clause-unfit : goal.returns-in-Err-clause-unfit
returns-in-Err-clause-unfit c = λ R h is. not_taken c.args.shape.now R c.args.rec.now c.in-Err.fault c.of_page.result c.of_page.ensures.same (c.in-Err.ensures.unfit R h is)
