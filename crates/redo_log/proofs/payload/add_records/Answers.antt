use Rattle.std.proofs.Common.{reverse, refl, arith}
use Rattle.redo_log.proofs.Payloads.{none_read, one_read, all_read, stops, further}
use Rattle.redo_log.proofs.payload.add_records.Goals as goal

pub loop-place-init : goal.loop-place-init
loop-place-init c = none_read c.args.payload.now (reverse c.args.into.now.items)

pub loop-place-preserved : goal.loop-place-preserved
loop-place-preserved c = one_read c.args.payload.now c.loop-place.place c.in-Ok.next c.in-Ok.rec (reverse c.args.into.now.items) c.push.new.self.items c.loop-place.into.items c.loop-place.invariant c.in-Ok.ensures.exact c.in-Ok-push.ensures.items

pub returns : goal.returns
returns c = all_read c.args.payload.now c.loop-place.place (reverse c.args.into.now.items) (reverse c.loop-place.into.items) c.loop-place-test.false c.loop-place.invariant
