use Rattle.std.proofs.Common.{◌≡◌, ℕ, ◌*◌, IfOk, ◌∙◌, sym, subst}
use Rattle.seg_words.specs.Types.{EXTENTS_OF_L2}
use Rattle.store_core.proofs.Lookups.{looked_on}
use Rattle.free_search.proofs.Known.{fixed_segment}
use Rattle.free_search.proofs.Thirds.{first_extent, group_best, has_extents, third_is, third_small}
use Rattle.free_search.proofs.group.best_at_group.Goals as goal

pub returns-in-Ok-clause-looked : goal.returns-in-Ok-clause-looked
returns-in-Ok-clause-looked g c = looked_on g.D.Disk.meaning c.args.store.now c.block_of.new.store c.best_by_third.new.store c.in-Ok.third c.best_by_third.result c.in-Ok.ensures.looked c.best_by_third.ensures.looked

pub returns-in-Ok-clause-says : goal.returns-in-Ok-clause-says
returns-in-Ok-clause-says g c = λ R t h.
    let k = c.args.shape.now in
    let o = c.args.segment.now.obj in
    let same = h.shape ∙ sym c.in-Ok.ensures.looked.loan.shape in
    let first = first_extent R k c.args.segment.now (fixed_segment g.D.Disk.meaning c.args.store.now R k c.args.segment.now t h) in
    subst (λ (v : ℕ). IfOk c.best_by_third.result (λ b. b ≡ v)) (group_best k c.block_of.new.store.shape R o (EXTENTS_OF_L2 * c.args.group) same)
    (c.best_by_third.ensures.says R o first.0 (c.in-Ok.ensures.looked.stays_true R t) first.1 (third_is k c.block_of.new.store.shape R o c.in-Ok.third same (c.in-Ok.ensures.says R t h)))

pub returns-in-Ok-clause-sound : goal.returns-in-Ok-clause-sound
returns-in-Ok-clause-sound g c = λ R t h l n.
    let k = c.args.shape.now in
    let o = c.args.segment.now.obj in
    let same = h.shape ∙ sym c.in-Ok.ensures.looked.loan.shape in
    let first = first_extent R k c.args.segment.now (fixed_segment g.D.Disk.meaning c.args.store.now R k c.args.segment.now t h) in
    c.best_by_third.ensures.sound R o first.0 (c.in-Ok.ensures.looked.stays_true R t) h.table first.1 (third_is k c.block_of.new.store.shape R o c.in-Ok.third same (c.in-Ok.ensures.says R t h)) l (c.in-Ok.ensures.looked.cause.kept n)

pub returns-in-Err-clause-sound : goal.returns-in-Err-clause-sound
returns-in-Err-clause-sound g c = λ R t h l n. c.in-Err.ensures.sound R t h (has_extents R c.args.shape.now c.args.segment.now (fixed_segment g.D.Disk.meaning c.args.store.now R c.args.shape.now c.args.segment.now t h)) (third_small c.args.shape.now c.requires) n
