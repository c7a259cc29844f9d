use Rattle.std.proofs.Common.{sym, ◌∙◌}
use Rattle.page_set.specs.Folded.{page_of}
use Rattle.store_pages.proofs.Batching.{older_after, pages_put, up_to, writable_after}
use Rattle.store_pages.proofs.pages.StorePages.put_batch.Goals as goal

pub invariant_of-self : goal.invariant_of-self
invariant_of-self g c = c.put_in.ensures.same ∙ c.self.invariant ∙ sym c.put_in.ensures.shape

pub returns-clause-any_moment : goal.returns-clause-any_moment
returns-clause-any_moment g c = rw (← c.self.view_is) (λ log R m h few back.
    c.put_in.ensures.any_moment log m (page_of c.self.inside.pool.shape R) h.over (writable_after c.self.inside.pool.shape log R m c.args.upto h.part h.marked few back))

pub returns-clause-done : goal.returns-clause-done
returns-clause-done g c = rw (← c.self.view_is) (λ log R m h few back.
    pages_put g.D.Disk.meaning c.args.disk.now c.put_in.new.disk log m R c.self.inside.pool c.put_in.new.pool h c.put_in.ensures.shape c.put_in.result
    (c.put_in.ensures.done log m (page_of c.self.inside.pool.shape R) h.over (writable_after c.self.inside.pool.shape log R m c.args.upto h.part h.marked few back)))

pub returns-clause-files : goal.returns-clause-files
returns-clause-files g c = rw (← c.self.view_is) (λ log R m h few back.
    c.put_in.ensures.files log m (page_of c.self.inside.pool.shape R) h.over (writable_after c.self.inside.pool.shape log R m c.args.upto h.part h.marked few back))

pub returns-clause-many : goal.returns-clause-many
returns-clause-many g c = rw (← c.self.view_is) (λ file R shows le.
    c.put_in.ensures.many (up_to c.self.inside.pool.shape c.args.upto file (page_of c.self.inside.pool.shape R) c.self.inside.pool.held shows (older_after c.self.inside.pool.shape R c.args.upto le) c.dirty-count.ensures.only))
