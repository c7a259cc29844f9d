use Rattle.std.proofs.Common.{sym, ◌∙◌}
use Rattle.disk_model.proofs.Lemmas.{untouched_start}
use Rattle.store_pages.proofs.Batching.{no_pages, none_over, put_keeps, put_leaves, put_over, taken}
use Rattle.store_pages.proofs.Standing.{folds_looked}
use Rattle.store_pages.proofs.batches.put_in.Goals as goal

pub returns-in-Err-clause-any_moment : goal.returns-in-Err-clause-any_moment
returns-in-Err-clause-any_moment g c = λ log m image h w. folds_looked g.D.Disk.meaning log m c.args.disk.now c.args.disk.now c.args.pool.now image h (untouched_start g.D.Disk.meaning c.args.disk.now)

pub returns-then-count-eq0-clause-any_moment : goal.returns-then-count-eq0-clause-any_moment
returns-then-count-eq0-clause-any_moment g c = λ log m image h w. folds_looked g.D.Disk.meaning log m c.args.disk.now c.args.disk.now c.args.pool.now image h (untouched_start g.D.Disk.meaning c.args.disk.now)

pub returns-then-count-eq0-clause-done : goal.returns-then-count-eq0-clause-done
returns-then-count-eq0-clause-done g c = λ log m image h w.
    none_over g.D.Disk.meaning c.args.disk.now c.args.most c.args.upto c.args.pool.now c.take_batch.new.self c.in-Ok.batch.items
    (taken c.args.most c.args.upto c.args.pool.now c.take_batch.new.self c.in-Ok.batch.items c.in-Ok.ensures.batch c.in-Ok.ensures.due c.in-Ok.ensures.shows c.take_batch.ensures.shape) log m image h w
    (no_pages c.in-Ok.batch.items (sym c.in-Ok.batch.ok.0 ∙ sym c.len-count.ensures ∙ c.if-count-eq0.true))

pub returns-in-Ok-put_all-clause-any_moment : goal.returns-in-Ok-put_all-clause-any_moment
returns-in-Ok-put_all-clause-any_moment g c = λ log m image h w.
    put_leaves g.D.Disk.meaning c.args.disk.now c.args.most c.args.upto c.args.pool.now c.take_batch.new.self c.in-Ok.batch.items
    (taken c.args.most c.args.upto c.args.pool.now c.take_batch.new.self c.in-Ok.batch.items c.in-Ok.ensures.batch c.in-Ok.ensures.due c.in-Ok.ensures.shows c.take_batch.ensures.shape) log m image h w
    c.args.store.now c.requires.shape c.deref.result.now c.deref.ensures.value c.put_all.new.disk c.put_all.ensures.any_moment

pub returns-clause-any_moment : goal.returns-clause-any_moment
returns-clause-any_moment g c = λ log m image h w.
    put_leaves g.D.Disk.meaning c.args.disk.now c.args.most c.args.upto c.args.pool.now c.take_batch.new.self c.in-Ok.batch.items
    (taken c.args.most c.args.upto c.args.pool.now c.take_batch.new.self c.in-Ok.batch.items c.in-Ok.ensures.batch c.in-Ok.ensures.due c.in-Ok.ensures.shows c.take_batch.ensures.shape) log m image h w
    c.args.store.now c.requires.shape c.deref.result.now c.deref.ensures.value c.put_all.new.disk c.put_all.ensures.any_moment

pub returns-in-Ok-put_all-clause-done : goal.returns-in-Ok-put_all-clause-done
returns-in-Ok-put_all-clause-done g c = λ log m image h w.
    put_over g.D.Disk.meaning c.args.disk.now c.args.most c.args.upto c.args.pool.now c.take_batch.new.self c.in-Ok.batch.items
    (taken c.args.most c.args.upto c.args.pool.now c.take_batch.new.self c.in-Ok.batch.items c.in-Ok.ensures.batch c.in-Ok.ensures.due c.in-Ok.ensures.shows c.take_batch.ensures.shape) log m image h w
    c.args.store.now c.requires.shape c.deref.result.now c.deref.ensures.value c.put_all.new.disk c.in-Ok-put_all.ensures.done

pub returns-in-Ok-put_all-clause-files : goal.returns-in-Ok-put_all-clause-files
returns-in-Ok-put_all-clause-files g c = λ log m image h w.
    put_keeps g.D.Disk.meaning c.args.disk.now c.args.most c.args.upto c.args.pool.now c.take_batch.new.self c.in-Ok.batch.items
    (taken c.args.most c.args.upto c.args.pool.now c.take_batch.new.self c.in-Ok.batch.items c.in-Ok.ensures.batch c.in-Ok.ensures.due c.in-Ok.ensures.shows c.take_batch.ensures.shape) log m image h w
    c.args.store.now c.requires.shape c.deref.result.now c.deref.ensures.value c.put_all.new.disk c.in-Ok-put_all.ensures.done
