use Rattle.std.proofs.Common.{◌≡◌, Option, IfOk, subst}
use Rattle.mark_laws.specs.declared.step.MarkStep.{MarkStep}
use Rattle.store_core.proofs.Lookups.{looked_on}
use Rattle.free_search.proofs.Known.{segment_is, segment_later}
use Rattle.free_search.proofs.Finding.{mark_same}
use Rattle.free_search.proofs.mark.next_mark.Goals as goal

pub returns-in-Ok-clause-looked : goal.returns-in-Ok-clause-looked
returns-in-Ok-clause-looked g c = looked_on g.D.Disk.meaning c.args.store.now c.read_segment.new.store c.next_of_segment.new.store c.in-Ok.segment c.next_of_segment.result c.in-Ok.ensures.looked c.next_of_segment.ensures.looked

pub returns-in-Ok-clause-says : goal.returns-in-Ok-clause-says
returns-in-Ok-clause-says g c = λ R t i.
    let sh = c.args.store.now.shape in
    let k = c.shape-shape.result in
    let s = c.in-Ok.segment in
    let is = c.in-Ok.ensures.says R t i in
    subst (λ (v : Option MarkStep). IfOk c.next_of_segment.result (λ m. m ≡ v)) (mark_same sh k R c.args.obj s c.shape-shape.ensures is)
    (c.next_of_segment.ensures.says R (c.in-Ok.ensures.looked.stays_true R t) (segment_later g.D.Disk.meaning c.args.store.now c.read_segment.new.store R k s c.in-Ok.ensures.looked.loan (segment_is sh R c.args.obj k s c.shape-shape.ensures i is)))

pub returns-in-Ok-clause-sound : goal.returns-in-Ok-clause-sound
returns-in-Ok-clause-sound g c = λ R t i n.
    let k = c.shape-shape.result in
    let s = c.in-Ok.segment in
    c.next_of_segment.ensures.sound R (c.in-Ok.ensures.looked.stays_true R t) (segment_later g.D.Disk.meaning c.args.store.now c.read_segment.new.store R k s c.in-Ok.ensures.looked.loan (segment_is c.args.store.now.shape R c.args.obj k s c.shape-shape.ensures i (c.in-Ok.ensures.says R t i)))
