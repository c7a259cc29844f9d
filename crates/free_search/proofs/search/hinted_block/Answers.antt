use Rattle.std.proofs.Common.{◌≡◌, ℕ, Option, IfOk, sym, subst}
use Rattle.mark_laws.specs.Searches.{first_hinted}
use Rattle.store_core.proofs.Lookups.{looked_same}
use Rattle.free_search.specs.Looks.{row_sought}
use Rattle.free_search.proofs.search.hinted_block.Goals as goal

pub returns-in-None-clause-looked : goal.returns-in-None-clause-looked
returns-in-None-clause-looked g c = looked_same g.D.Disk.meaning c.args.store.now _ c.requires.unspent

pub returns-in-Some-clause-says : goal.returns-in-Some-clause-says
returns-in-Some-clause-says g c = λ R t k. subst (λ (h : Option ℕ). IfOk c.first_in_table.result (λ r. r ≡ first_hinted c.args.look.now.shape R (row_sought c.args.look.now) h)) (sym c.in-Some.is) (c.first_in_table.ensures.says R t k)
