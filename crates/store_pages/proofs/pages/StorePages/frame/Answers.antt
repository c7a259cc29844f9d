use Rattle.page_set.specs.declared.page.Page.TheVariants.{Zero}
use Rattle.std.proofs.Common.{◌∙◌}
use Rattle.store_pages.proofs.Lending.{lent_page}
use Rattle.store_pages.proofs.pages.StorePages.frame.Goals as goal

pub returns : goal.returns
returns c =
    let fetched = rw (← c.self.view_is) at c.requires in
    rw (← c.self.view_is) (λ file R shows. c.frame.ensures (Zero 0) ∙ lent_page file R c.args.dba c.self.inside.pool (Zero 0) shows fetched.has fetched.framed)
