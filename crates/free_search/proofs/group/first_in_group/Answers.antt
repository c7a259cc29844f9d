use Rattle.std.proofs.Common.{◌*◌, None, arith}
use Rattle.seg_words.specs.Types.{EXTENTS_OF_L2}
use Rattle.store_core.proofs.Lookups.{looked_on, looked_ok, looked_same}
use Rattle.free_search.proofs.Known.{fixed, knows_later}
use Rattle.free_search.proofs.Extents.{ok_map}
use Rattle.free_search.proofs.Walking.{group_begins, group_past, group_whole, group_none}
use Rattle.free_search.proofs.group.first_in_group.Goals as goal

pub returns-then-from-look-clause-looked : goal.returns-then-from-look-clause-looked
returns-then-from-look-clause-looked g c = looked_same g.D.Disk.meaning c.args.store.now _ c.requires.unspent

pub returns-then-from-look-clause-says : goal.returns-then-from-look-clause-says
returns-then-from-look-clause-says g c = λ R t k. group_past R c.args.look.now c.args.store.now.shape c.args.wanted.now c.args.only c.first_index-from.result (EXTENTS_OF_L2 * c.args.group) _ k c.if-from-look.true c.first_index-from.ensures

pub returns-in-Ok-true-clause-looked : goal.returns-in-Ok-true-clause-looked
returns-in-Ok-true-clause-looked g c = looked_on g.D.Disk.meaning c.args.store.now c.group_may_have.new.store c.first_in_extents.new.store c.in-Ok-true.field-0 c.first_in_extents.result c.in-Ok-true.ensures.looked c.first_in_extents.ensures.looked

pub returns-in-Ok-true-clause-says : goal.returns-in-Ok-true-clause-says
returns-in-Ok-true-clause-says g c = λ R t k.
    ok_map _ _ c.first_in_extents.result
    (λ r f. group_whole R c.args.look.now c.args.store.now.shape c.args.wanted.now c.args.only c.first_index-from.result (EXTENTS_OF_L2 * c.args.group) c.end_index-to.result r k c.first_index-from.ensures c.end_index-to.ensures f)
    (c.first_in_extents.ensures.says R (c.in-Ok-true.ensures.looked.stays_true R t) (knows_later g.D.Disk.meaning c.args.store.now c.group_may_have.new.store R c.args.look.now c.in-Ok-true.ensures.looked.loan k))

pub returns-in-Ok-true-clause-sound : goal.returns-in-Ok-true-clause-sound
returns-in-Ok-true-clause-sound g c = λ R t k. c.first_in_extents.ensures.sound R (c.in-Ok-true.ensures.looked.stays_true R t) (knows_later g.D.Disk.meaning c.args.store.now c.group_may_have.new.store R c.args.look.now c.in-Ok-true.ensures.looked.loan k)

pub returns-in-Ok-false-clause-looked : goal.returns-in-Ok-false-clause-looked
returns-in-Ok-false-clause-looked g c = looked_ok g.D.Disk.meaning c.args.store.now c.group_may_have.new.store c.in-Ok-false.field-0 _ c.in-Ok-false.ensures.looked

pub returns-in-Ok-false-clause-says : goal.returns-in-Ok-false-clause-says
returns-in-Ok-false-clause-says g c = λ R t k.
    let l = c.args.look.now in
    group_whole R l c.args.store.now.shape c.args.wanted.now c.args.only c.first_index-from.result (EXTENTS_OF_L2 * c.args.group) c.end_index-to.result None k c.first_index-from.ensures c.end_index-to.ensures
    (group_none R l c.args.store.now.shape c.args.wanted.now c.args.only c.args.group c.first_index-from.result c.end_index-to.result (fixed g.D.Disk.meaning c.args.store.now R l t k) k c.requires.most c.first_index-from.ensures c.if-from-look.false c.end_index-to.ensures (c.in-Ok-false.ensures.says R t k c.in-Ok-false.field-0-test))

pub first_in_extents-requires-clause-group : goal.first_in_extents-requires-clause-group
first_in_extents-requires-clause-group g c = group_begins c.args.group c.first_index-from.result c.requires.group c.first_index-from.ensures

pub first_in_extents-requires-clause-covered : goal.first_in_extents-requires-clause-covered
first_in_extents-requires-clause-covered g c = (let e = c.end_index-to.ensures in omega (arith, e))

pub first_in_extents-requires-clause-few : goal.first_in_extents-requires-clause-few
first_in_extents-requires-clause-few g c = (let e = c.end_index-to.ensures in omega (arith, e))
