use Rattle.std.proofs.Common.{arith}
use Rattle.page_map.specs.Fitting.{FitsAll}
use Rattle.store_core.proofs.Lookups.{on_ok}
use Rattle.store_core.proofs.Takes.{memory_not_taken}
use Rattle.store_core.proofs.putting.take_in.Goals as goal

pub returns-in-Ok-clause-fits : goal.returns-in-Ok-clause-fits
returns-in-Ok-clause-fits c = λ R n h. on_ok c.put_one.result (FitsAll c.args.shape.now R c.args.rec.now) (c.in-Ok.ensures.fits R h (omega (arith, n, c.count-count.ensures)))

pub returns-in-Ok-clause-unfit : goal.returns-in-Ok-clause-unfit
returns-in-Ok-clause-unfit c = λ R n h. memory_not_taken c.args.shape.now R c.args.rec.now c.put_one.result c.put_one.ensures.only

pub returns-in-Err-clause-unfit : goal.returns-in-Err-clause-unfit
returns-in-Err-clause-unfit c = λ R n h. c.in-Err.ensures.unfit R h (omega (arith, n, c.count-count.ensures))
