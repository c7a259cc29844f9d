use Rattle.std.proofs.Common.{◌∙◌}
use Rattle.seg_words.specs.Types.{TXN_TABLE_BLOCK}
use Rattle.page_set.specs.declared.page.Page.TheVariants.{Zero}
use Rattle.store_pages.proofs.Lending.{lent_page, table_fetched}
use Rattle.store_pages.proofs.pages.StorePages.table.Goals as goal

pub returns-clause-page : goal.returns-clause-page
returns-clause-page c = rw (← c.self.view_is) (λ file R shows.
    c.table.ensures.page (Zero 0) ∙ lent_page file R TXN_TABLE_BLOCK c.self.inside.pool (Zero 0) shows (c.dirty-count.ensures.only.at TXN_TABLE_BLOCK c.table.ensures.has) c.table.ensures.has)

pub returns-clause-fetched : goal.returns-clause-fetched
returns-clause-fetched c = rw (← c.self.view_is) (table_fetched c.self.inside.pool c.dirty-count.ensures.only c.table.ensures.has)
