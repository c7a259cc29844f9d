use Rattle.std.proofs.Common.{sym, ◌∙◌}
use Rattle.session_core.proofs.Noted.{none_moved, more_moved, all_moved, none_stays, rest_less, moving_failed}
use Rattle.session_core.proofs.owed.move_all.Goals as goal

pub loop-block-init : goal.loop-block-init
loop-block-init c = none_moved c.args.from.now c.args.to.now

pub loop-block-preserved : goal.loop-block-preserved
loop-block-preserved c = more_moved c.args.from.now c.args.to.now c.loop-block.from c.loop-block.to c.drop_next.new.self c.push.new.self c.in-Some.block c.loop-block.invariant (sym c.next.ensures ∙ c.in-Some.is) c.in-Ok.ensures.ok c.drop_next.ensures

pub loop-block-smaller : goal.loop-block-smaller
loop-block-smaller c = rest_less c.loop-block.from c.drop_next.new.self c.in-Some.block (sym c.next.ensures ∙ c.in-Some.is) c.drop_next.ensures

pub returns-in-Err-clause-err : goal.returns-in-Err-clause-err
returns-in-Err-clause-err c = moving_failed c.args.from.now c.args.to.now c.loop-block.from c.loop-block.to c.push.new.self c.loop-block.invariant c.in-Err.ensures.err

pub returns-clause-ok : goal.returns-clause-ok
returns-clause-ok c = all_moved c.args.from.now c.args.to.now c.loop-block.from c.loop-block.to c.loop-block.invariant (sym c.next.ensures ∙ c.in_default.is)

pub returns-clause-none_left : goal.returns-clause-none_left
returns-clause-none_left c = none_stays c.loop-block.from (sym c.next.ensures ∙ c.in_default.is)
