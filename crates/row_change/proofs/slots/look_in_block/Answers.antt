use Rattle.std.specs.Prelude.{Ok, Err}
use Rattle.std.proofs.Common.{arith, subst}
use Rattle.redo_model.specs.Model.{at_place}
use Rattle.row_change.specs.Locating.{SeesFor}
use Rattle.store_core.proofs.Lookups.{looked_on, looked_ok}
use Rattle.row_change.proofs.Having.{data_has}
use Rattle.row_change.proofs.Positions.{none_in, seen_in}
use Rattle.row_change.proofs.Searching.{search_on, slots_next}
use Rattle.row_change.proofs.slots.look_in_block.Goals as goal

pub returns-in-Err-clause-sound : goal.returns-in-Err-clause-sound
returns-in-Err-clause-sound g c = λ R o i t h at n. c.in-Err.ensures.sound R t.list n (data_has c.args.store.now.shape R o i c.args.dba c.args.search.now h at)

pub loop-slot-init : goal.loop-slot-init
loop-slot-init g c = record { looked = c.in-Ok.ensures.looked; none = λ R o i t h at. λ k l. absurd (omega (arith, l)) }

pub returns-in-Err-look_for_row-clause-looked : goal.returns-in-Err-look_for_row-clause-looked
returns-in-Err-look_for_row-clause-looked g c = looked_on g.D.Disk.meaning c.args.store.now c.loop-slot.store c.look_for_row.new.store tt (Err c.in-Err-look_for_row.fault) c.loop-slot.invariant.looked c.in-Err-look_for_row.ensures.looked

pub returns-in-Err-look_for_row-clause-sound : goal.returns-in-Err-look_for_row-clause-sound
returns-in-Err-look_for_row-clause-sound g c = λ R o i t h at n.
    let l = c.loop-slot.invariant.looked in
    c.in-Err-look_for_row.ensures.sound R o i (l.stays_true R t) (search_on g.D.Disk.meaning c.args.store.now c.loop-slot.store (Ok tt) R o c.args.search.now l h) at (l.cause.kept n)

pub returns-in-Ok-Some-clause-looked : goal.returns-in-Ok-Some-clause-looked
returns-in-Ok-Some-clause-looked g c = looked_ok g.D.Disk.meaning c.args.store.now c.look_for_row.new.store c.in-Ok-Some.field-0 _ (looked_on g.D.Disk.meaning c.args.store.now c.loop-slot.store c.look_for_row.new.store tt (Ok c.in-Ok-Some.field-0) c.loop-slot.invariant.looked c.in-Ok-Some.ensures.looked)

pub returns-in-Ok-Some-clause-says : goal.returns-in-Ok-Some-clause-says
returns-in-Ok-Some-clause-says g c = λ R o i t h at.
    let l = c.loop-slot.invariant.looked in
    seen_in R c.args.search.now c.args.row c.args.dba c.loop-slot.slot c.in-Ok-Some.sight (subst (SeesFor R c.args.search.now.own c.args.row (at_place c.args.dba c.loop-slot.slot)) c.in-Ok-Some.field-0-is (c.in-Ok-Some.ensures.says R o i (l.stays_true R t) (search_on g.D.Disk.meaning c.args.store.now c.loop-slot.store (Ok tt) R o c.args.search.now l h) at))

pub loop-slot-preserved : goal.loop-slot-preserved
loop-slot-preserved g c = slots_next g.D.Disk.meaning c.args.store.now c.loop-slot.store c.look_for_row.new.store c.args.search.now c.args.row c.args.dba c.loop-slot.slot c.in-Ok-None.field-0 c.loop-slot.invariant c.in-Ok-None.ensures.looked (λ R o i t h at. subst (SeesFor R c.args.search.now.own c.args.row (at_place c.args.dba c.loop-slot.slot)) c.in-Ok-None.field-0-is (c.in-Ok-None.ensures.says R o i t h at))

pub returns-clause-looked : goal.returns-clause-looked
returns-clause-looked g c = looked_ok g.D.Disk.meaning c.args.store.now c.loop-slot.store tt _ c.loop-slot.invariant.looked

pub returns-clause-says : goal.returns-clause-says
returns-clause-says g c = λ R o i t h at.
    let f = c.in-Ok.ensures.looked in
    let m = c.loop-slot-test.false in
    none_in R c.args.search.now c.args.row c.args.dba c.told_slots-slots.result c.loop-slot.slot (c.loop-slot.invariant.none R o i t h at) (c.told_slots-slots.ensures R o i c.args.search.now (f.stays_true R t) (search_on g.D.Disk.meaning c.args.store.now c.fetch.new.self _ R o c.args.search.now f h) at) (omega (arith, m))
