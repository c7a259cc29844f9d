use Rattle.std.proofs.Common.{◌∙◌, ℕ, [], suc, sym, ap, subst, arith}
use Rattle.redo_model.specs.Records.{Commit}
use Rattle.page_set.specs.Changes.{Fits}
use Rattle.page_set.specs.Folded.{page_of}
use Rattle.pool_store.proofs.commits.commit_in.Goals as goal

pub returns-in-Ok-clause-list : goal.returns-in-Ok-clause-list
returns-in-Ok-clause-list c = λ groups R h. c.append_commit.ensures.added groups [] R h

pub returns-in-Ok-clause-pages : goal.returns-in-Ok-clause-pages
returns-in-Ok-clause-pages c = λ file R count small h. c.in-Ok.ensures.leads file R h (c.next_lsn-lsn.ensures (omega (arith, count, small)) ∙ ap suc count)

pub returns-in-Err-clause-fits : goal.returns-in-Err-clause-fits
returns-in-Err-clause-fits c = λ file R small shows fit.
    c.in-Err.ensures.fits file R shows (subst (λ (n : ℕ). Fits (Commit c.args.c) n (page_of c.args.pages.now.shape R 1)) (sym (c.next_lsn-lsn.ensures small)) fit)
