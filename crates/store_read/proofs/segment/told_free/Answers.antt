use Rattle.std.proofs.Common.{◌≡◌, ℕ, IfOk, subst}
use Rattle.seg_words.specs.Types.{Shape}
use Rattle.mark_laws.specs.Movements.{least_free}
use Rattle.store_read.proofs.Truth.{space_says}
use Rattle.store_read.proofs.segment.told_free.Goals as goal

pub returns-clause-says : goal.returns-clause-says
returns-clause-says g c = λ R t e. subst (λ (z : Shape). IfOk c.least_free_in.result (λ x. x ≡ least_free z R)) e (c.least_free_in.ensures.says R (space_says c.args.store.now.shape R c.frame.result.now t.list.within t.lawful (c.frame.ensures R t.list)))

pub returns-clause-right : goal.returns-clause-right
returns-clause-right g c = λ R t e. c.least_free_in.ensures.right R (space_says c.args.store.now.shape R c.frame.result.now t.list.within t.lawful (c.frame.ensures R t.list))
