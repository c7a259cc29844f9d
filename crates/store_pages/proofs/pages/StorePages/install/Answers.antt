use Rattle.std.proofs.Common.{sym, ◌∙◌}
use Rattle.page_set.specs.Folded.{page_of}
use Rattle.store_pages.proofs.Lending.{after_shape}
use Rattle.store_pages.proofs.pages.StorePages.install.Goals as goal

pub invariant_of-self : goal.invariant_of-self
invariant_of-self c = c.self.invariant ∙ sym c.install.ensures.shape

pub returns-clause-leads : goal.returns-clause-leads
returns-clause-leads c = rw (← c.self.view_is) (λ file R Q shows leads.
    after_shape c.self.inside.pool c.install.new.self file Q c.install.ensures.shape (c.install.ensures.shows file (page_of c.self.inside.pool.shape R) (page_of c.self.inside.pool.shape Q) shows leads))
