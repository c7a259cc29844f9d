use Rattle.std.proofs.Common.{Some, sym, ◌∙◌, ap, true≢false}
use Rattle.seg_words.specs.Types.{UndoAddr}
use Rattle.row_change.proofs.Addresses.{addr_inside, no_addr}
use Rattle.row_change.proofs.looking.has_undo.Goals as goal

pub returns-in-None-clause-same : goal.returns-in-None-clause-same
returns-in-None-clause-same c = λ e. absurd (true≢false (sym e))

pub returns-in-None-clause-other : goal.returns-in-None-clause-other
returns-in-None-clause-other c = λ e z. no_addr c.args.front.now.undo c.args.undo.now c.in-None.is z

pub returns-in-Some-clause-same : goal.returns-in-Some-clause-same
returns-in-Some-clause-same c = λ e. c.in-Some.is ∙ ap (λ (x : UndoAddr). Some x) (c.is_same.ensures.same e)

pub returns-in-Some-clause-other : goal.returns-in-Some-clause-other
returns-in-Some-clause-other c = λ e z. c.is_same.ensures.other e (addr_inside c.in-Some.a c.args.undo.now (sym c.in-Some.is ∙ z))
