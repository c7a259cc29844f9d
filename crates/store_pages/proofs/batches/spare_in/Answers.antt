use Rattle.std.proofs.Common.{arith}
use Rattle.disk_model.proofs.Lemmas.{untouched_start}
use Rattle.store_pages.proofs.Batching.{room_left, up_to}
use Rattle.store_pages.proofs.Standing.{folds_looked, keeps_start}
use Rattle.page_store.specs.Types.{blocks_of}
use Rattle.store_pages.proofs.Refusing.{dirty_settled}
use Rattle.store_pages.proofs.batches.spare_in.Goals as goal

pub returns-then-dirty-le-MOST_DIRTY-clause-any_moment : goal.returns-then-dirty-le-MOST_DIRTY-clause-any_moment
returns-then-dirty-le-MOST_DIRTY-clause-any_moment g c = λ log m image h w. folds_looked g.D.Disk.meaning log m c.args.disk.now c.args.disk.now c.args.pool.now image h (untouched_start g.D.Disk.meaning c.args.disk.now)

pub returns-then-dirty-le-MOST_DIRTY-clause-files : goal.returns-then-dirty-le-MOST_DIRTY-clause-files
returns-then-dirty-le-MOST_DIRTY-clause-files g c = λ log m image h w. keeps_start g.D.Disk.meaning c.args.disk.now

pub returns-then-dirty-gt-MOST_DIRTY-clause-sound : goal.returns-then-dirty-gt-MOST_DIRTY-clause-sound
returns-then-dirty-gt-MOST_DIRTY-clause-sound g c = λ file image shows older.
    let up = up_to c.args.pool.now.shape c.args.upto file image c.args.pool.now.held shows older c.dirty.ensures.only in
    let left = room_left c.in-Ok.field-0 c.args.pool.now.dirty c.put_in.new.pool.dirty (c.in-Ok.ensures.many up) c.in-Ok.ensures.put.dirty (omega (arith, c.dirty.ensures.value, c.dirty.ensures.most)) (omega (arith, c.dirty.ensures.value, c.if-dirty-le-MOST_DIRTY.false)) in
    absurd (omega (arith, left, c.dirty-2.ensures.value, c.if-dirty-gt-MOST_DIRTY.true))

pub returns-then-dirty-gt-MOST_DIRTY-clause-whole : goal.returns-then-dirty-gt-MOST_DIRTY-clause-whole
returns-then-dirty-gt-MOST_DIRTY-clause-whole g c = λ up.
    let left = room_left c.in-Ok.field-0 c.args.pool.now.dirty c.put_in.new.pool.dirty (c.in-Ok.ensures.many up) c.in-Ok.ensures.put.dirty (omega (arith, c.dirty.ensures.value, c.dirty.ensures.most)) (omega (arith, c.dirty.ensures.value, c.if-dirty-le-MOST_DIRTY.false)) in
    absurd (omega (arith, left, c.dirty-2.ensures.value, c.if-dirty-gt-MOST_DIRTY.true))

pub returns-clause-up : goal.returns-clause-up
returns-clause-up g c = λ up. dirty_settled c.args.upto (blocks_of c.in-Ok.ensures.put.batch) c.args.pool.now.held c.put_in.new.pool.held c.in-Ok.ensures.put.settled up
