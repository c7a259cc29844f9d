use Rattle.std.proofs.Common.{refl, sym, ◌∙◌}
use Rattle.seg_words.specs.Types.{TXN_TABLE_BLOCK}
use Rattle.page_set.specs.Folded.{page_of}
use Rattle.store_pages.proofs.Lending.{commit_shows, fits_as}
use Rattle.store_pages.proofs.pages.StorePages.commit.Goals as goal

pub invariant_of-self : goal.invariant_of-self
invariant_of-self c = c.self.invariant ∙ sym c.change_commit.ensures.shape

pub returns-then-not-takes_commit-clause-fits : goal.returns-then-not-takes_commit-clause-fits
returns-then-not-takes_commit-clause-fits c = λ file R shows fits.
    absurd (c.takes_commit.ensures.misfit c.if-not-takes_commit.true c.args.lsn (fits_as c.args.c c.args.lsn (page_of c.args.self.now.shape R TXN_TABLE_BLOCK) c.table.result.now (sym (c.table.ensures.page file R shows)) fits))

pub returns-clause-misfit : goal.returns-clause-misfit
returns-clause-misfit c = λ file R shows.
    fits_as c.args.c c.args.lsn c.table.result.now (page_of c.args.self.now.shape R TXN_TABLE_BLOCK) (c.table.ensures.page file R shows) (c.takes_commit.ensures.fits c.if-not-takes_commit.false c.args.lsn)

pub returns-clause-leads : goal.returns-clause-leads
returns-clause-leads c =
    let page = rw (← c.self.view_is) at c.table.ensures.page in
    rw (← c.self.view_is) (λ file R shows e.
    commit_shows c.self.inside.pool c.change_commit.new.self file R c.args.c c.args.lsn e c.change_commit.ensures.shape
    (c.change_commit.ensures.shows file (page_of c.self.inside.pool.shape R) c.args.c refl
    (fits_as c.args.c c.args.lsn c.table.result.now (page_of c.self.inside.pool.shape R TXN_TABLE_BLOCK) (page file R shows) (c.takes_commit.ensures.fits c.if-not-takes_commit.false c.args.lsn)) shows))
