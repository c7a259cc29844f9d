use Rattle.std.proofs.Common.{◌∙◌, sym}
use Rattle.free_search.proofs.Codes.{left_here, left_next, left_none}
use Rattle.free_search.proofs.place.is_left_out.Goals as goal

pub returns-then-is_block : goal.returns-then-is_block
returns-then-is_block c = sym (left_here c.args.but.now c.loop-block.block-index c.args.dba c.block-item.result c.loop-block-test.true c.block-item.is (sym c.is_block.ensures ∙ c.if-is_block.true))

pub loop-block-preserved : goal.loop-block-preserved
loop-block-preserved c = left_next c.args.but.now c.loop-block.block-index c.args.dba c.block-item.result c.loop-block-test.true c.block-item.is (sym c.is_block.ensures ∙ c.if-is_block.false) c.loop-block.invariant

pub returns : goal.returns
returns c = sym (left_none c.args.but.now c.loop-block.block-index c.args.dba c.loop-block-test.false c.loop-block.invariant)
