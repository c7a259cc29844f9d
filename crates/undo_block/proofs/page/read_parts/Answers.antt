use Rattle.undo_block.specs.Types.{HasPartForm, parts_in, part_size}
use Rattle.std.proofs.Common.{sym, subst, ap, ◌∙◌, arith}
use Rattle.undo_block.proofs.Forms.{part_formed}
use Rattle.undo_block.proofs.Reading.{one_read, short_read, all_read}
use Rattle.undo_block.proofs.page.read_parts.Goals as goal

pub returns-then-rest-lt-UNDO_PART_SIZE : goal.returns-then-rest-lt-UNDO_PART_SIZE
returns-then-rest-lt-UNDO_PART_SIZE c = short_read c.args.count c.loop.counter c.loop.parts c.loop.rest.now (parts_in c.args.count c.args.bytes.now) c.loop.invariant c.if-rest-lt-UNDO_PART_SIZE.true

pub push-requires-clause-form : goal.push-requires-clause-form
push-requires-clause-form c = subst HasPartForm (sym c.in_ok-read_part.ensures) (part_formed c.split_at.result.0.now c.cut.result.0.now (omega (arith, c.cut.ensures.most, c.from.ensures, c.len_in.ensures)))

pub loop-preserved : goal.loop-preserved
loop-preserved c = one_read c.args.count c.loop.counter c.loop.parts c.loop.rest.now c.split_at.result.0.now c.split_at.result.1.now c.cut.result.0.now c.cut.result.1.now c.from.result c.in_ok-read_part.field-0 c.push.new.self
    (parts_in c.args.count c.args.bytes.now) c.loop.invariant c.loop-test.true c.if-rest-lt-UNDO_PART_SIZE.false c.split_at.ensures.front c.split_at.ensures.back (c.from.ensures ∙ c.len_in.ensures) c.cut.ensures.front c.cut.ensures.back c.cut.ensures.both c.split_at.ensures.back_len c.in_ok-read_part.ensures (ap part_size c.in_ok-read_part.ensures) c.in_ok-push.ensures.ok

pub returns : goal.returns
returns c = all_read c.args.count c.loop.counter c.loop.parts c.loop.rest.now (parts_in c.args.count c.args.bytes.now) c.loop.invariant c.loop-test.false
