use Rattle.row_block.specs.Types.{slots_in}
use Rattle.row_block.proofs.Reading.{one_read, all_read}
use Rattle.row_block.proofs.page.read_slots.Goals as goal

pub loop-preserved : goal.loop-preserved
loop-preserved c = one_read c.args.count c.loop.counter c.loop.slots.items c.push.new.self.items c.loop.groups.now c.split_at.result.0.now c.split_at.result.1.now c.loop.rows.now c.cut.result.0.now c.cut.result.1.now c.read-fields.result c.row_len.result c.in_ok-slot.field-0
    (slots_in c.args.count c.args.groups.now c.args.rows.now) c.loop-test.true c.split_at.ensures.front c.split_at.ensures.back c.read-fields.ensures c.row_len.ensures c.cut.ensures.front c.cut.ensures.back c.in_ok-slot.ensures c.in_ok-push.ensures.items c.loop.invariant

pub returns : goal.returns
returns c = all_read c.args.count c.loop.counter c.loop.slots.items c.loop.groups.now c.loop.rows.now (slots_in c.args.count c.args.groups.now c.args.rows.now) c.loop-test.false c.loop.invariant
