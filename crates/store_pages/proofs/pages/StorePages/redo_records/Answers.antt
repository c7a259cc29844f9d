use Rattle.std.proofs.Common.{sym, ◌∙◌}
use Rattle.store_pages.proofs.pages.StorePages.redo_records.Goals as goal

pub invariant_of-self : goal.invariant_of-self
invariant_of-self g c = c.redo_all.ensures.same ∙ c.self.invariant ∙ sym c.redo_all.ensures.shape

pub returns-clause-any_moment : goal.returns-clause-any_moment
returns-clause-any_moment g c = rw (← c.self.view_is) c.redo_all.ensures.any_moment

pub returns-clause-done : goal.returns-clause-done
returns-clause-done g c = rw (← c.self.view_is) c.redo_all.ensures.done

pub returns-clause-why : goal.returns-clause-why
returns-clause-why g c = rw (← c.self.view_is) c.redo_all.ensures.why

pub returns-clause-names : goal.returns-clause-names
returns-clause-names g c = rw (← c.self.view_is) c.redo_all.ensures.names
