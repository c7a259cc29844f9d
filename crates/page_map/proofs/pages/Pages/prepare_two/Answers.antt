use Rattle.std.proofs.Common.{rules, ◌∙◌}
use Rattle.page_map.proofs.Pairing.{both_at}
use Rattle.page_map.proofs.pages.Pages.prepare_two.Goals as goal

pub returns-clause-all_fit : goal.returns-clause-all_fit
returns-clause-all_fit c = λ R h e. both_at c.args.shape.now R c.args.first.now c.args.second.now c.args.lsn c.lsn.inside.0 c.args.self.now c.deref.result.now c.deref-3.result.now c.in_ok-pages.pages.items c.deref-2.result.now (search rules) (c.deref.ensures.value ∙ search rules) (c.deref-3.ensures.value ∙ search rules) c.deref-2.ensures.value h e
    c.in_ok-pages.ensures.there c.in_ok-pages.ensures.done c.in_ok-pages.ensures.fits c.in_ok-more.ensures.fits
