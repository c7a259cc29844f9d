use Rattle.std.proofs.Common.{◌≡◌, subst, IfOk}
use Rattle.page_set.specs.declared.page.Page.{Page}
use Rattle.pool_store.proofs.asking.read_frame.Goals as goal

pub returns : goal.returns
returns g c = λ R t. subst (λ (p : Page). IfOk c.read.result (λ x. x ≡ g.Q.Question.reads c.args.question.now p)) (c.frame.ensures R t) c.read.ensures
