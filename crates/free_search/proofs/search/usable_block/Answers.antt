use Rattle.std.proofs.Common.{ℕ, Option, None, ◌∙◌, sym, ap}
use Rattle.mark_laws.specs.Searches.{block_or}
use Rattle.store_core.proofs.Lookups.{looked_ok}
use Rattle.free_search.proofs.search.usable_block.Goals as goal

pub returns-in-Ok-Some-clause-looked : goal.returns-in-Ok-Some-clause-looked
returns-in-Ok-Some-clause-looked g c = looked_ok g.D.Disk.meaning c.args.store.now c.first_in_table.new.store c.in-Ok-Some.field-0 _ c.in-Ok-Some.ensures.looked

pub returns-in-Ok-Some-clause-says : goal.returns-in-Ok-Some-clause-says
returns-in-Ok-Some-clause-says g c = λ R t k. ap (λ (x : Option ℕ). block_or x None) (sym c.in-Ok-Some.field-0-is ∙ c.in-Ok-Some.ensures.says R t k)

pub returns-in-Ok-None-clause-looked : goal.returns-in-Ok-None-clause-looked
returns-in-Ok-None-clause-looked g c = looked_ok g.D.Disk.meaning c.args.store.now c.first_in_table.new.store c.in-Ok-None.field-0 _ c.in-Ok-None.ensures.looked

pub returns-in-Ok-None-clause-says : goal.returns-in-Ok-None-clause-says
returns-in-Ok-None-clause-says g c = λ R t k. ap (λ (x : Option ℕ). block_or x None) (sym c.in-Ok-None.field-0-is ∙ c.in-Ok-None.ensures.says R t k)
