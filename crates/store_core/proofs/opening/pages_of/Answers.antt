use Rattle.std.proofs.Common.{reverse}
use Rattle.store_core.proofs.LogRead.{lawful_folds, pages_refused}
use Rattle.store_core.proofs.opening.pages_of.Goals as goal

pub returns-in-Err-clause-lawful : goal.returns-in-Err-clause-lawful
returns-in-Err-clause-lawful c = λ within lawful. c.of_pages.ensures.memory (lawful_folds c.args.shape.now (reverse c.args.records.now) c.in-Err.fault within lawful c.in-Err.ensures.fault)

pub returns-in-Err-clause-why : goal.returns-in-Err-clause-why
returns-in-Err-clause-why c = λ file at head ends. pages_refused file at c.args.shape.now (reverse c.args.records.now) c.in-Err.fault c.of_pages.result c.of_pages.ensures.same head ends c.in-Err.ensures.fault
