use Rattle.std.proofs.Common.{rules, List, [], ◌∙◌, subst}
use Rattle.page_set.specs.declared.page.Page.{Page}
use Rattle.page_set.specs.Folded.{touched_once}
use Rattle.page_map.specs.Pages.{AreFit}
use Rattle.page_map.proofs.Replaying.{fits_all}
use Rattle.page_map.proofs.pages.Pages.prepare.Goals as goal

pub returns-clause-all_fit : goal.returns-clause-all_fit
returns-clause-all_fit c = λ R h e. fits_all c.args.shape.now R c.args.rec.now c.args.lsn c.args.self.now h e (subst (λ (ps : List Page). AreFit c.args.rec.now c.args.lsn [] ps (touched_once c.args.shape.now c.args.rec.now)) (c.deref.ensures.value ∙ search rules) c.in_ok-pages.ensures.fits)
