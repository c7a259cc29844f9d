use Rattle.std.proofs.Common.{sym, ◌∙◌, subst}
use Rattle.seg_words.specs.Types.{Shape}
use Rattle.redo_model.specs.Model.{IsRowBlock}
use Rattle.store_core.proofs.Lookups.{looked_on, looked_ok, looked_err}
use Rattle.row_change.proofs.Ways.{way_in_place, way_told}
use Rattle.row_change.proofs.fitting.way_apart.Goals as goal

pub returns-in-Err-clause-looked : goal.returns-in-Err-clause-looked
returns-in-Err-clause-looked g c = looked_err g.D.Disk.meaning c.args.store.now c.fits_at.new.store c.in-Err.fault c.in-Err.ensures.looked

pub returns-in-Err-clause-sound : goal.returns-in-Err-clause-sound
returns-in-Err-clause-sound g c = λ R o who t a x y l m n. c.in-Err.ensures.sound R o who t a y m n

pub returns-then-fits-clause-looked : goal.returns-then-fits-clause-looked
returns-then-fits-clause-looked g c = looked_ok g.D.Disk.meaning c.args.store.now c.fits_at.new.store c.in-Ok.fits _ c.in-Ok.ensures.looked

pub returns-then-fits-clause-says : goal.returns-then-fits-clause-says
returns-then-fits-clause-says g c = λ R o who t a x y. way_in_place R c.args.own.now c.args.head.now c.args.body.now c.args.len (sym (c.in-Ok.ensures.says R o who t a y) ∙ c.if-fits.true)

pub returns-clause-looked : goal.returns-clause-looked
returns-clause-looked g c = looked_on g.D.Disk.meaning c.args.store.now c.fits_at.new.store c.way_past.new.store c.in-Ok.fits c.way_past.result c.in-Ok.ensures.looked c.way_past.ensures.looked

pub returns-clause-says : goal.returns-clause-says
returns-clause-says g c = λ R o who t a x y. way_told R c.args.own.now c.args.head.now c.args.body.now c.args.len c.way_past.result (sym (c.in-Ok.ensures.says R o who t a y) ∙ c.if-fits.false) (c.way_past.ensures.says R o who (c.in-Ok.ensures.looked.stays_true R t) a (subst (λ (s : Shape). IsRowBlock s R o c.args.head.now.dba) (sym c.in-Ok.ensures.looked.loan.shape) x))

pub returns-clause-sound : goal.returns-clause-sound
returns-clause-sound g c = λ R o who t a x y l m n. c.way_past.ensures.sound R o who (c.in-Ok.ensures.looked.stays_true R t) a (subst (λ (s : Shape). IsRowBlock s R o c.args.head.now.dba) (sym c.in-Ok.ensures.looked.loan.shape) x) l (c.in-Ok.ensures.looked.cause.kept n)
