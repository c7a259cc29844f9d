use Rattle.std.proofs.Common.{◌∙◌, [], suc, ap, arith}
use Rattle.store_core.proofs.commits.commit_in.Goals as goal

pub returns-in-Ok-clause-list : goal.returns-in-Ok-clause-list
returns-in-Ok-clause-list c = λ groups R h. c.append_commit.ensures.added groups [] R h

pub returns-in-Ok-clause-pages : goal.returns-in-Ok-clause-pages
returns-in-Ok-clause-pages c = λ sh R count small h. c.in-Ok.ensures.leads sh R h (c.next_lsn-lsn.ensures (omega (arith, count, small)) ∙ ap suc count)
