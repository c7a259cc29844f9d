use Rattle.checkpoint_block.proofs.Again.{said_again}
use Rattle.checkpoint_block.proofs.Written.{point_or_not, point_written}
use Rattle.checkpoint_block.proofs.writing.write.Goals as goal

pub returns-clause-any_moment : goal.returns-clause-any_moment
returns-clause-any_moment g c pages store =
    point_or_not g.D.Disk.meaning c.args.disk.now c.put_all.new.disk c.args.store.now pages c.args.point.now c.page_of-page.result c.page_of-page.ensures (c.put_all.ensures.any_moment pages store)

pub returns-clause-done : goal.returns-clause-done
returns-clause-done g c pages store =
    point_written g.D.Disk.meaning c.args.disk.now c.put_all.new.disk c.args.store.now pages c.args.point.now c.page_of-page.result c.page_of-page.ensures c.put_all.result (c.put_all.ensures.done pages store)

pub returns-clause-said : goal.returns-clause-said
returns-clause-said g c = said_again c.args.point.now c.numbers_in_range.ensures
