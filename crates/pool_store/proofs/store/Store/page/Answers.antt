use Rattle.std.proofs.Common.{◌∙◌, ap}
use Rattle.seg_words.specs.Types.{Shape}
use Rattle.page_set.specs.Folded.{page_of}
use Rattle.pool_store.proofs.store.Store.page.Goals as goal

pub returns-in-Ok-clause-page : goal.returns-in-Ok-clause-page
returns-in-Ok-clause-page g c = λ R t. c.frame.ensures R (c.in-Ok.ensures.looked.stays_true R t) ∙ ap (λ (sh : Shape). page_of sh R c.args.dba) c.in-Ok.ensures.looked.loan.shape
