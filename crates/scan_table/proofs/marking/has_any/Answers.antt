use Rattle.std.proofs.Common.{◌∙◌, sym}
use Rattle.scan_table.proofs.Lowering.{any_here, any_next, any_none}
use Rattle.scan_table.proofs.marking.has_any.Goals as goal

pub returns-then-is_in_extent : goal.returns-then-is_in_extent
returns-then-is_in_extent c = sym (any_here c.args.shape.now c.args.extent c.args.blocks.now c.loop-dba.dba-index c.dba-item.result c.loop-dba-test.true c.dba-item.is (sym c.is_in_extent.ensures ∙ c.if-is_in_extent.true))

pub loop-dba-preserved : goal.loop-dba-preserved
loop-dba-preserved c = any_next c.args.shape.now c.args.extent c.args.blocks.now c.loop-dba.dba-index c.dba-item.result c.loop-dba-test.true c.dba-item.is (sym c.is_in_extent.ensures ∙ c.if-is_in_extent.false) c.loop-dba.invariant

pub returns : goal.returns
returns c = sym (any_none c.args.shape.now c.args.extent c.args.blocks.now c.loop-dba.dba-index c.loop-dba-test.false c.loop-dba.invariant)
