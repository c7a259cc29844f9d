use Rattle.std.proofs.Common.{sym, ◌∙◌}
use Rattle.page_set.specs.Folded.{page_of}
use Rattle.store_pages.proofs.Batching.{older_after, pages_put, writable_after}
use Rattle.store_pages.proofs.pages.StorePages.spare.Goals as goal

pub invariant_of-self : goal.invariant_of-self
invariant_of-self g c = c.spare_in.ensures.same ∙ c.self.invariant ∙ sym c.spare_in.ensures.shape

pub returns-clause-any_moment : goal.returns-clause-any_moment
returns-clause-any_moment g c = rw (← c.self.view_is) (λ log R m h few back.
    c.spare_in.ensures.any_moment log m (page_of c.self.inside.pool.shape R) h.over (writable_after c.self.inside.pool.shape log R m c.args.upto h.part h.marked few back))

pub returns-clause-done : goal.returns-clause-done
returns-clause-done g c = rw (← c.self.view_is) (λ log R m h few back.
    pages_put g.D.Disk.meaning c.args.disk.now c.spare_in.new.disk log m R c.self.inside.pool c.spare_in.new.pool h c.spare_in.ensures.shape c.spare_in.result
    (c.spare_in.ensures.done log m (page_of c.self.inside.pool.shape R) h.over (writable_after c.self.inside.pool.shape log R m c.args.upto h.part h.marked few back)))

pub returns-clause-files : goal.returns-clause-files
returns-clause-files g c = rw (← c.self.view_is) (λ log R m h few back.
    c.spare_in.ensures.files log m (page_of c.self.inside.pool.shape R) h.over (writable_after c.self.inside.pool.shape log R m c.args.upto h.part h.marked few back))

pub returns-clause-sound : goal.returns-clause-sound
returns-clause-sound g c = rw (← c.self.view_is) (λ file R shows le. c.spare_in.ensures.sound file (page_of c.self.inside.pool.shape R) shows (older_after c.self.inside.pool.shape R c.args.upto le))
