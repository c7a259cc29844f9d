use Rattle.std.specs.Prelude.{Ok, Err}
use Rattle.std.proofs.Common.{arith}
use Rattle.store_core.proofs.Lookups.{looked_ok, looked_err}
use Rattle.scan_table.proofs.Going.{all_slots, none_read, part_on, reading_on, slot_fails, slots_next, still_unspent}
use Rattle.scan_table.proofs.slots.read_block.Goals as goal

pub returns-in-Err-clause-looked : goal.returns-in-Err-clause-looked
returns-in-Err-clause-looked g c = looked_err g.D.Disk.meaning c.args.store.now c.count_slots.new.store c.in-Err.fault c.in-Err.ensures.looked

pub returns-in-Err-clause-says : goal.returns-in-Err-clause-says
returns-in-Err-clause-says g c = λ R o t h. c.in-Err.ensures.sound R o c.args.reader.now t h c.requires

pub loop-slot-init : goal.loop-slot-init
loop-slot-init g c = none_read g.D.Disk.meaning c.args.store.now c.count_slots.new.store c.args.reader.now c.args.dba c.new-rows.result (looked_ok g.D.Disk.meaning c.args.store.now c.count_slots.new.store c.in-Ok.slots tt c.in-Ok.ensures.looked) c.new-rows.ensures

pub add_slot-requires : goal.add_slot-requires
add_slot-requires g c = still_unspent g.D.Disk.meaning c.args.store.now c.loop-slot.store tt c.loop-slot.invariant.looked

pub loop-slot-preserved : goal.loop-slot-preserved
loop-slot-preserved g c = slots_next g.D.Disk.meaning c.args.store.now c.loop-slot.store c.add_slot.new.store c.args.reader.now c.args.dba c.loop-slot.slot c.loop-slot.rows c.add_slot.new.rows c.loop-slot.invariant c.in-Ok-add_slot.ensures.looked (λ R o t h. c.in-Ok-add_slot.ensures.says R o t h)

pub returns-in-Err-add_slot-clause-looked : goal.returns-in-Err-add_slot-clause-looked
returns-in-Err-add_slot-clause-looked g c = part_on {T = Unit {0}} g.D.Disk.meaning c.args.store.now c.loop-slot.store c.add_slot.new.store tt (Err c.in-Err-add_slot.fault) c.loop-slot.invariant.looked c.in-Err-add_slot.ensures.looked

pub returns-in-Err-add_slot-clause-says : goal.returns-in-Err-add_slot-clause-says
returns-in-Err-add_slot-clause-says g c = λ R o t h.
    let l = c.loop-slot.invariant.looked in
    let m = c.loop-slot-test.true in
    slot_fails R c.args.reader.now c.args.dba c.loop-slot.slot c.in-Ok.slots c.loop-slot.rows c.in-Err-add_slot.fault (c.loop-slot.invariant.read R o t h) (c.in-Ok.ensures.says R o c.args.reader.now t h) (omega (arith, m))
    (c.in-Err-add_slot.ensures.says R o (l.stays_true R t) (reading_on g.D.Disk.meaning c.args.store.now c.loop-slot.store (Ok tt) R c.args.reader.now o c.args.dba l h))

pub returns-clause-looked : goal.returns-clause-looked
returns-clause-looked g c = c.loop-slot.invariant.looked

pub returns-clause-says : goal.returns-clause-says
returns-clause-says g c = λ R o t h.
    let m = c.loop-slot-test.false in
    all_slots R c.args.dba c.args.reader.now.at _ c.loop-slot.slot c.in-Ok.slots c.loop-slot.rows (c.loop-slot.invariant.read R o t h) (c.in-Ok.ensures.says R o c.args.reader.now t h) (omega (arith, m)) (omega (arith, m))
