use Rattle.page_map.proofs.Replaying.{one_more_in}
use Rattle.page_map.proofs.pages.Pages.after.Goals as goal

pub loop-i-preserved : goal.loop-i-preserved
loop-i-preserved c =
    one_more_in c.args.shape.now c.args.records.now c.loop-i.i c.index-records-i.result c.loop-i.pages c.add.new.self c.loop-i.invariant c.index-records-i.is c.loop-i-test.true c.in_ok-add.ensures.leads c.in_ok-add.ensures.fits
