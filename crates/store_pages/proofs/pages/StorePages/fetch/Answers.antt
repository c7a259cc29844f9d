use Rattle.std.proofs.Common.{◌≡◌, true, IsSome, ap, sym, ◌∙◌}
use Rattle.seg_words.specs.Types.{Shape}
use Rattle.buffer_pool.specs.Frames.{frame_at, has_page}
use Rattle.buffer_pool.proofs.Stores.{looks_start}
use Rattle.store_pages.specs.Pages.{IsFetched}
use Rattle.store_pages.proofs.Fitted.{both_ok, why_not_fetched}
use Rattle.store_pages.proofs.Standing.{pages_looked}
use Rattle.store_pages.proofs.pages.StorePages.fetch.Goals as goal

pub invariant_of-self : goal.invariant_of-self
invariant_of-self g c = c.self.invariant ∙ sym c.fetch.ensures.looks.shape

pub returns-then-not-has_page-clause-looks : goal.returns-then-not-has_page-clause-looks
returns-then-not-has_page-clause-looks g c = looks_start g.D.Disk.meaning c.args.disk.now c.args.self.now

pub returns-clause-stays : goal.returns-clause-stays
returns-clause-stays g c = rw (← c.self.view_is) (λ log R m h. pages_looked g.D.Disk.meaning log m c.args.disk.now c.fetch.new.disk c.self.inside.pool c.fetch.new.self R h c.fetch.ensures.looks)

pub returns-clause-fetched : goal.returns-clause-fetched
returns-clause-fetched g c =
    both_ok c.fetch.result (IsSome (frame_at c.fetch.new.self.held c.args.dba)) (has_page c.self.inside.pool.shape c.args.dba ≡ true) (IsFetched c.args.dba c.fetch.new.self)
    (λ some has. record { has = ap (λ (sh : Shape). has_page sh c.args.dba) c.fetch.ensures.looks.shape ∙ has; framed = some }) c.fetch.ensures.has c.fetch.ensures.there

pub returns-clause-why : goal.returns-clause-why
returns-clause-why g c = rw (← c.self.view_is) (λ log R m h. why_not_fetched g.D.Disk.meaning c.args.disk.now log m R c.self.inside.pool h c.args.dba c.fetch.result c.fetch.ensures.page)
