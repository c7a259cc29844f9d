use Rattle.std.proofs.Common.{sym, ◌∙◌}
use Rattle.store_pages.proofs.Fitted.{both_fit, why_not_both}
use Rattle.store_pages.proofs.Standing.{pages_looked}
use Rattle.store_pages.proofs.pages.StorePages.prepare_two.Goals as goal

pub invariant_of-self : goal.invariant_of-self
invariant_of-self g c = c.self.invariant ∙ sym c.prepare.ensures.looks.shape

pub returns-clause-stays : goal.returns-clause-stays
returns-clause-stays g c = rw (← c.self.view_is) (λ log R m h. pages_looked g.D.Disk.meaning log m c.args.disk.now c.prepare.new.disk c.self.inside.pool c.prepare.new.self R h c.prepare.ensures.looks)

pub returns-clause-leads : goal.returns-clause-leads
returns-clause-leads g c = rw (← c.self.view_is) (λ log R m h e. c.prepare.ensures.leads h.over.file R h.over.base h.over.shown e)

pub returns-clause-all_fit : goal.returns-clause-all_fit
returns-clause-all_fit g c = rw (← c.self.view_is) (λ log R m h e. both_fit g.D.Disk.meaning c.args.disk.now log m R c.self.inside.pool h c.args.first.now c.args.second.now c.args.lsn e c.prepare.result c.prepare.ensures.answers)

pub returns-clause-unfit : goal.returns-clause-unfit
returns-clause-unfit g c = rw (← c.self.view_is) (λ log R m h e. why_not_both g.D.Disk.meaning c.args.disk.now log m R c.self.inside.pool h c.args.first.now c.args.second.now c.args.lsn e c.prepare.result c.prepare.ensures.answers)
