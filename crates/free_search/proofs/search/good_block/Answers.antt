use Rattle.std.proofs.Common.{◌≡◌, ℕ, Option, find, IfOk, ◌∙◌, sym, ap, subst}
use Rattle.redo_model.specs.Model.{under_high}
use Rattle.mark_laws.specs.Searches.{is_good}
use Rattle.store_core.proofs.Lookups.{looked_on}
use Rattle.free_search.specs.Looks.{row_sought}
use Rattle.free_search.specs.Answers.{first_of}
use Rattle.free_search.proofs.Known.{knows_later}
use Rattle.free_search.proofs.search.good_block.Goals as goal

pub returns-in-Ok-Some-clause-says : goal.returns-in-Ok-Some-clause-says
returns-in-Ok-Some-clause-says g c = λ R t k. ap (λ (x : Option ℕ). first_of x (find (is_good c.args.look.now.shape R (row_sought c.args.look.now)) (under_high c.args.look.now.shape R c.args.look.now.segment.obj))) (sym c.in-Ok-Some.field-0-is ∙ c.in-Ok-Some.ensures.says R t k)

pub returns-in-Ok-None-clause-looked : goal.returns-in-Ok-None-clause-looked
returns-in-Ok-None-clause-looked g c = looked_on g.D.Disk.meaning c.args.store.now c.hinted_block.new.store c.first_in_table.new.store c.in-Ok-None.field-0 c.first_in_table.result c.in-Ok-None.ensures.looked c.first_in_table.ensures.looked

pub returns-in-Ok-None-clause-says : goal.returns-in-Ok-None-clause-says
returns-in-Ok-None-clause-says g c = λ R t k.
    let l = c.args.look.now in
    subst (λ (v : Option ℕ). IfOk c.first_in_table.result (λ r. r ≡ v)) (ap (λ (x : Option ℕ). first_of x (find (is_good l.shape R (row_sought l)) (under_high l.shape R l.segment.obj))) (sym c.in-Ok-None.field-0-is ∙ c.in-Ok-None.ensures.says R t k))
    (c.first_in_table.ensures.says R (c.in-Ok-None.ensures.looked.stays_true R t) (knows_later g.D.Disk.meaning c.args.store.now c.hinted_block.new.store R l c.in-Ok-None.ensures.looked.loan k))

pub returns-in-Ok-None-clause-sound : goal.returns-in-Ok-None-clause-sound
returns-in-Ok-None-clause-sound g c = λ R t k. c.first_in_table.ensures.sound R (c.in-Ok-None.ensures.looked.stays_true R t) (knows_later g.D.Disk.meaning c.args.store.now c.hinted_block.new.store R c.args.look.now c.in-Ok-None.ensures.looked.loan k)
