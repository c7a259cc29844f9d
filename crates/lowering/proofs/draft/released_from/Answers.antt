use Rattle.std.proofs.Common.{◌≡◌, map, drop, Some}
use Rattle.redo_model.specs.Model.{Extent, extents_of}
use Rattle.page_set.specs.Folded.{page_of}
use Rattle.lowering.specs.Asked.{released_in}
use Rattle.lowering.proofs.Knowing.{answer_on}
use Rattle.lowering.proofs.Told.{header_there, released_read, released_told}
use Rattle.lowering.proofs.draft.released_from.Goals as goal

pub returns-clause-says : goal.returns-clause-says
returns-clause-says g c = λ R o k. answer_on c.ask.result (λ x. released_in c.args.kept (page_of c.args.store.now.shape R c.args.ground.now.segment.header) ≡ Some x) (λ x. x ≡ map (λ (e : Extent). e.number) (drop c.args.kept (extents_of R o)))
    (λ x e. released_told g.D.Disk.meaning c.args.store.now R o c.args.kept c.args.ground.now x k e) (c.ask.ensures.says R k.holds)

pub returns-clause-sound : goal.returns-clause-sound
returns-clause-sound g c = λ R o k u. c.ask.ensures.sound R (map (λ (e : Extent). e.number) (drop c.args.kept (extents_of R o))) k.holds u (header_there g.D.Disk.meaning c.args.store.now R o c.args.ground.now k) (released_read g.D.Disk.meaning c.args.store.now R o c.args.kept c.args.ground.now k)
