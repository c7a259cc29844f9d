use Rattle.std.proofs.Common.{◌≡◌, subst, IfOk}
use Rattle.page_set.specs.declared.page.Page.{Page}
use Rattle.pool_store.specs.Undo.{table_of}
use Rattle.pool_store.proofs.store.Store.told_table.Goals as goal

pub returns : goal.returns
returns g c = λ R t. subst (λ (p : Page). IfOk c.table_in.result (λ x. x ≡ table_of p)) (c.frame.ensures R t) c.table_in.ensures
