use Rattle.std.proofs.Common.{[], List, reverse, subst}
use Rattle.std.proofs.lemmas.List.{append-nil}
use Rattle.redo_model.specs.Records.{Record}
use Rattle.store_pages.specs.Pages.{HasPages, LeavesFolds}
use Rattle.store_pages.specs.Redoing.{WhyNotRedone}
use Rattle.pool_store.proofs.LogRead.{pages_refused, pages_sound, pages_stop}
use Rattle.pool_store.proofs.opening.pages_of.Goals as goal

pub returns-in-Ok-clause-opened : goal.returns-in-Ok-clause-opened
returns-in-Ok-clause-opened g c = λ is. subst (λ (l : List Record). HasPages g.D.Disk.meaning c.open.new.disk l 0 l c.in-Ok.pages) (append-nil (reverse c.args.records.now)) (c.in-Ok.ensures.opened [] is)

pub returns-in-Ok-clause-any_moment : goal.returns-in-Ok-clause-any_moment
returns-in-Ok-clause-any_moment g c = λ is. subst (λ (l : List Record). LeavesFolds g.D.Disk.meaning c.args.disk.now c.open.new.disk c.args.shape l 0) (append-nil (reverse c.args.records.now)) (c.open.ensures.any_moment [] is)

pub returns-in-Err-clause-any_moment : goal.returns-in-Err-clause-any_moment
returns-in-Err-clause-any_moment g c = λ is. subst (λ (l : List Record). LeavesFolds g.D.Disk.meaning c.args.disk.now c.open.new.disk c.args.shape l 0) (append-nil (reverse c.args.records.now)) (c.open.ensures.any_moment [] is)

pub returns-in-Err-clause-stops : goal.returns-in-Err-clause-stops
returns-in-Err-clause-stops g c = λ is dba e.
    pages_stop c.args.shape (reverse c.args.records.now) dba c.in-Err.fault c.of_pages.result c.of_pages.ensures.same (cc e)
    (subst (λ (l : List Record). WhyNotRedone c.args.shape l 0 c.in-Err.fault) (append-nil (reverse c.args.records.now)) (c.in-Err.ensures.why [] is))

pub returns-in-Err-clause-lawful : goal.returns-in-Err-clause-lawful
returns-in-Err-clause-lawful g c = λ is within lawful.
    pages_sound c.args.shape (reverse c.args.records.now) c.in-Err.fault c.of_pages.result c.of_pages.ensures.same within lawful
    (subst (λ (l : List Record). WhyNotRedone c.args.shape l 0 c.in-Err.fault) (append-nil (reverse c.args.records.now)) (c.in-Err.ensures.why [] is))

pub returns-in-Err-clause-why : goal.returns-in-Err-clause-why
returns-in-Err-clause-why g c = λ file at head ends. pages_refused file at c.args.shape (reverse c.args.records.now) c.in-Err.fault c.of_pages.result c.of_pages.ensures.same head ends

pub returns-in-Ok-clause-files : goal.returns-in-Ok-clause-files
returns-in-Ok-clause-files g c = λ is. c.in-Ok.ensures.files [] is
