use Rattle.std.proofs.Common.{◌≡◌, Option, IfOk, ◌∙◌, sym, subst}
use Rattle.mark_laws.specs.declared.step.MarkStep.{MarkStep}
use Rattle.store_core.proofs.Lookups.{looked_on, looked_ok}
use Rattle.free_search.proofs.Known.{segment_later}
use Rattle.free_search.proofs.Finding.{formats, formats_none}
use Rattle.free_search.proofs.mark.next_of_segment.Goals as goal

pub returns-in-Ok-Some-clause-looked : goal.returns-in-Ok-Some-clause-looked
returns-in-Ok-Some-clause-looked g c = looked_ok g.D.Disk.meaning c.args.store.now c.first_unformatted.new.store c.in-Ok-Some.field-0 _ c.in-Ok-Some.ensures.looked

pub returns-in-Ok-Some-clause-says : goal.returns-in-Ok-Some-clause-says
returns-in-Ok-Some-clause-says g c = λ R t h. formats c.args.shape.now R c.args.segment.now.obj c.in-Ok-Some.dba (sym c.in-Ok-Some.field-0-is ∙ c.in-Ok-Some.ensures.says R t h)

pub returns-in-Ok-None-clause-looked : goal.returns-in-Ok-None-clause-looked
returns-in-Ok-None-clause-looked g c = looked_on g.D.Disk.meaning c.args.store.now c.first_unformatted.new.store c.next_growth.new.store c.in-Ok-None.field-0 c.next_growth.result c.in-Ok-None.ensures.looked c.next_growth.ensures.looked

pub returns-in-Ok-None-clause-says : goal.returns-in-Ok-None-clause-says
returns-in-Ok-None-clause-says g c = λ R t h. subst (λ (v : Option MarkStep). IfOk c.next_growth.result (λ m. m ≡ v)) (formats_none c.args.shape.now R c.args.segment.now.obj (sym c.in-Ok-None.field-0-is ∙ c.in-Ok-None.ensures.says R t h)) (c.next_growth.ensures.says R (c.in-Ok-None.ensures.looked.stays_true R t) (segment_later g.D.Disk.meaning c.args.store.now c.first_unformatted.new.store R c.args.shape.now c.args.segment.now c.in-Ok-None.ensures.looked.loan h))

pub returns-in-Ok-None-clause-sound : goal.returns-in-Ok-None-clause-sound
returns-in-Ok-None-clause-sound g c = λ R t h. c.next_growth.ensures.sound R (c.in-Ok-None.ensures.looked.stays_true R t)
