use Rattle.std.proofs.Common.{◌∷◌, ◌∙◌, arith}
use Rattle.redo_model.specs.Lists.{more}
use Rattle.store_pages.specs.Fitting.{FitsAll}
use Rattle.pool_store.proofs.Lookups.{on_ok}
use Rattle.pool_store.proofs.Takes.{memory_not_taken, memory_not_device, leads_at, pages_left, pages_of}
use Rattle.pool_store.proofs.putting.take_in.Goals as goal

pub returns-in-Ok-clause-pages : goal.returns-in-Ok-clause-pages
returns-in-Ok-clause-pages g c = λ logged R m n h.
    let e = c.in-Ok.ensures in
    let leads = leads_at c.args.pages.now.shape c.prepared.new.pages.shape R (c.args.rec.now ∷ R) c.in-Ok.changed e.looks.shape (e.leads logged R m h (omega (arith, n, c.count-count.ensures))) in
    pages_of g.D.Disk.meaning c.prepared.new.disk logged R (c.args.rec.now ∷ R) m c.prepared.new.pages c.put_one.new.pages c.put_one.result (more c.args.rec.now h.part) c.put_one.ensures.shape
    (λ file shows. c.put_one.ensures.pages file R (c.args.rec.now ∷ R) shows leads) (e.stays logged R m h)

pub returns-in-Ok-clause-kept : goal.returns-in-Ok-clause-kept
returns-in-Ok-clause-kept g c = λ logged R m h. pages_left g.D.Disk.meaning c.prepared.new.disk logged R m c.prepared.new.pages c.put_one.new.pages c.put_one.result c.put_one.ensures.kept (c.in-Ok.ensures.stays logged R m h)

pub returns-in-Ok-clause-fits : goal.returns-in-Ok-clause-fits
returns-in-Ok-clause-fits g c = λ logged R m n h. on_ok c.put_one.result (FitsAll c.args.pages.now.shape R c.args.rec.now) (c.in-Ok.ensures.fits logged R m h (omega (arith, n, c.count-count.ensures)))

pub returns-in-Ok-clause-unfit : goal.returns-in-Ok-clause-unfit
returns-in-Ok-clause-unfit g c = λ logged R m n h. memory_not_taken c.args.pages.now.shape R c.args.rec.now c.put_one.result c.put_one.ensures.only

pub returns-in-Ok-clause-shape : goal.returns-in-Ok-clause-shape
returns-in-Ok-clause-shape g c = c.put_one.ensures.shape ∙ c.in-Ok.ensures.looks.shape

pub returns-in-Ok-clause-cause : goal.returns-in-Ok-clause-cause
returns-in-Ok-clause-cause g c = record { later = c.in-Ok.ensures.cause.later; rose = λ is. memory_not_device c.put_one.result c.put_one.ensures.only is }

pub returns-in-Err-clause-kept : goal.returns-in-Err-clause-kept
returns-in-Err-clause-kept g c = λ logged R m h. c.in-Err.ensures.stays logged R m h

pub returns-in-Err-clause-unfit : goal.returns-in-Err-clause-unfit
returns-in-Err-clause-unfit g c = λ logged R m n h. c.in-Err.ensures.unfit logged R m h (omega (arith, n, c.count-count.ensures))
