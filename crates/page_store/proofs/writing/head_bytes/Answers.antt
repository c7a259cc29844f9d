use Rattle.std.proofs.Common.{[], arith}
use Rattle.page_store.proofs.Fronts.{next_place, next_front, whole_front}
use Rattle.page_store.proofs.writing.head_bytes.Goals as goal

pub loop-page-init : goal.loop-page-init
loop-page-init c = c.add-at.ensures.bytes [] c.begin-start.ensures

pub add-at-requires-in-loop-page : goal.add-at-requires-in-loop-page
add-at-requires-in-loop-page c = omega (arith, next_place c.args.batch.now c.loop-page.head c.loop-page.page-index c.loop-page.at (omega arith) c.loop-page.invariant)

pub loop-page-preserved : goal.loop-page-preserved
loop-page-preserved c = next_front c.args.batch.now c.loop-page.page-index c.page-item.result c.dba_bytes.result c.add-at-in-loop-page.new.page c.add-at-in-loop-page.result c.loop-page-test.true c.page-item.is c.dba_bytes.ensures (c.add-at-in-loop-page.ensures.bytes _ c.loop-page.invariant)

pub returns : goal.returns
returns c = whole_front c.args.batch.now c.loop-page.page-index c.loop-page.head c.loop-page.at c.loop-page-test.false c.loop-page.invariant
