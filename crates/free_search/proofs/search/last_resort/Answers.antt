use Rattle.std.proofs.Common.{◌≡◌, Option, None, find, IfOk, ◌∙◌, sym, ap, subst}
use Rattle.redo_model.specs.Model.{under_high}
use Rattle.mark_laws.specs.declared.step.MarkStep.{MarkStep}
use Rattle.mark_laws.specs.declared.step.Found.{Found}
use Rattle.mark_laws.specs.Searches.{block_or, mark_or, is_usable}
use Rattle.store_core.proofs.Lookups.{looked_on, looked_ok}
use Rattle.free_search.specs.Looks.{row_sought}
use Rattle.free_search.proofs.Known.{knows_later, segment_of}
use Rattle.free_search.proofs.search.last_resort.Goals as goal

pub returns-in-Ok-Some-clause-looked : goal.returns-in-Ok-Some-clause-looked
returns-in-Ok-Some-clause-looked g c = looked_ok g.D.Disk.meaning c.args.store.now c.next_of_segment.new.store c.in-Ok-Some.field-0 _ c.in-Ok-Some.ensures.looked

pub returns-in-Ok-Some-clause-says : goal.returns-in-Ok-Some-clause-says
returns-in-Ok-Some-clause-says g c = λ R t k.
    let l = c.args.look.now in
    ap (λ (m : Option MarkStep). mark_or m (block_or (find (is_usable l.shape R (row_sought l)) (under_high l.shape R l.segment.obj)) None)) (sym c.in-Ok-Some.field-0-is ∙ c.in-Ok-Some.ensures.says R t (segment_of c.args.store.now.shape R l k))

pub returns-in-Ok-None-clause-looked : goal.returns-in-Ok-None-clause-looked
returns-in-Ok-None-clause-looked g c = looked_on g.D.Disk.meaning c.args.store.now c.next_of_segment.new.store c.usable_block.new.store c.in-Ok-None.field-0 c.usable_block.result c.in-Ok-None.ensures.looked c.usable_block.ensures.looked

pub returns-in-Ok-None-clause-says : goal.returns-in-Ok-None-clause-says
returns-in-Ok-None-clause-says g c = λ R t k.
    let l = c.args.look.now in
    subst (λ (v : Option Found). IfOk c.usable_block.result (λ f. f ≡ v)) (ap (λ (m : Option MarkStep). mark_or m (block_or (find (is_usable l.shape R (row_sought l)) (under_high l.shape R l.segment.obj)) None)) (sym c.in-Ok-None.field-0-is ∙ c.in-Ok-None.ensures.says R t (segment_of c.args.store.now.shape R l k)))
    (c.usable_block.ensures.says R (c.in-Ok-None.ensures.looked.stays_true R t) (knows_later g.D.Disk.meaning c.args.store.now c.next_of_segment.new.store R l c.in-Ok-None.ensures.looked.loan k))

pub returns-in-Ok-None-clause-sound : goal.returns-in-Ok-None-clause-sound
returns-in-Ok-None-clause-sound g c = λ R t k. c.usable_block.ensures.sound R (c.in-Ok-None.ensures.looked.stays_true R t) (knows_later g.D.Disk.meaning c.args.store.now c.next_of_segment.new.store R c.args.look.now c.in-Ok-None.ensures.looked.loan k)

pub returns-in-Err-clause-sound : goal.returns-in-Err-clause-sound
returns-in-Err-clause-sound g c = λ R t k. c.in-Err.ensures.sound R t (segment_of c.args.store.now.shape R c.args.look.now k)
