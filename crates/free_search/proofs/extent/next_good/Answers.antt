use Rattle.std.proofs.Common.{arith, ◌∙◌, sym, Err}
use Rattle.redo_model.specs.Model.{extents_of}
use Rattle.store_core.proofs.Lookups.{looked_on, looked_ok, looked_err}
use Rattle.free_search.proofs.Extents.{extent_there}
use Rattle.free_search.proofs.Bests.{lacks_indexed, second_is, second_small}
use Rattle.free_search.proofs.extent.next_good.Goals as goal

pub returns-in-Err-clause-sound : goal.returns-in-Err-clause-sound
returns-in-Err-clause-sound g c = λ R t h l m n. c.in-Err.ensures.sound R t h l (second_small c.args.shape.now c.requires.shape) n

pub returns-in-Ok-next_by_second-clause-looked : goal.returns-in-Ok-next_by_second-clause-looked
returns-in-Ok-next_by_second-clause-looked g c = looked_ok g.D.Disk.meaning c.args.store.now c.next_by_second.new.store c.in-Ok-next_by_second.nth _ (looked_on g.D.Disk.meaning c.args.store.now c.block_of.new.store c.next_by_second.new.store c.in-Ok.second _ c.in-Ok.ensures.looked c.in-Ok-next_by_second.ensures.looked)

pub returns-in-Ok-next_by_second-clause-says : goal.returns-in-Ok-next_by_second-clause-says
returns-in-Ok-next_by_second-clause-says g c = λ R t h l.
    let k = c.args.shape.now in
    let o = c.args.segment.now.obj in
    let same = h.shape ∙ sym c.in-Ok.ensures.looked.loan.shape in
    let e = extent_there (extents_of R o) c.args.start l in
    lacks_indexed k c.block_of.new.store.shape R o c.args.start c.args.index c.in-Ok-next_by_second.nth same c.requires.order
    (c.in-Ok-next_by_second.ensures.says R o e.0 (c.in-Ok.ensures.looked.stays_true R t) e.1 (second_is k c.block_of.new.store.shape R o c.args.start c.in-Ok.second same c.requires.group (c.in-Ok.ensures.says R t h)))

pub returns-in-Ok-next_by_second-clause-within : goal.returns-in-Ok-next_by_second-clause-within
returns-in-Ok-next_by_second-clause-within g c =
    let w = c.in-Ok-next_by_second.ensures.within in
    let least = w.0 in
    let most = w.1 in
    let order = c.requires.order in
    let range = c.requires.range in
    (omega (arith, least, order), omega (arith, most, order, range))

pub returns-in-Err-next_by_second-clause-looked : goal.returns-in-Err-next_by_second-clause-looked
returns-in-Err-next_by_second-clause-looked g c = looked_on g.D.Disk.meaning c.args.store.now c.block_of.new.store c.next_by_second.new.store c.in-Ok.second (Err c.in-Err-next_by_second.fault) c.in-Ok.ensures.looked (looked_err g.D.Disk.meaning c.block_of.new.store c.next_by_second.new.store c.in-Err-next_by_second.fault c.in-Err-next_by_second.ensures.looked)

pub returns-in-Err-next_by_second-clause-sound : goal.returns-in-Err-next_by_second-clause-sound
returns-in-Err-next_by_second-clause-sound g c = λ R t h l m n.
    let k = c.args.shape.now in
    let o = c.args.segment.now.obj in
    let same = h.shape ∙ sym c.in-Ok.ensures.looked.loan.shape in
    let e = extent_there (extents_of R o) c.args.start l in
    c.in-Err-next_by_second.ensures.sound R o e.0 (c.in-Ok.ensures.looked.stays_true R t) h.table e.1 (second_is k c.block_of.new.store.shape R o c.args.start c.in-Ok.second same c.requires.group (c.in-Ok.ensures.says R t h)) (let order = c.requires.order in omega (arith, m, order)) (c.in-Ok.ensures.looked.cause.kept n)
