use Rattle.page_map.proofs.Replaying.{fits_all}
use Rattle.page_map.proofs.pages.Pages.add.Goals as goal

pub returns-clause-fits : goal.returns-clause-fits
returns-clause-fits c R h e = fits_all c.args.shape.now R c.args.rec.now c.args.lsn c.args.self.now h e c.in_ok-changed.ensures.fits
