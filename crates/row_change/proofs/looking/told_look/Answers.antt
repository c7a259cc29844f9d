use Rattle.std.proofs.Common.{refl}
use Rattle.row_change.proofs.Addresses.{not_by}
use Rattle.row_change.proofs.looking.told_look.Goals as goal

pub returns-then-has_undo-clause-says : goal.returns-then-has_undo-clause-says
returns-then-has_undo-clause-says c = (refl, c.has_undo.ensures.same c.if-has_undo.true)

pub returns-in-By-clause-says : goal.returns-in-By-clause-says
returns-in-By-clause-says c = (c.has_undo.ensures.other c.if-has_undo.false, c.in-By.is)

pub returns-in-At-clause-none : goal.returns-in-At-clause-none
returns-in-At-clause-none c = record { other = c.has_undo.ensures.other c.if-has_undo.false; no_txn = λ u e. not_by c.args.front.now.writer c.in-At.field-0 u c.in-At.is e }
