use Rattle.std.proofs.Common.{[], None, ap, ◌∙◌}
use Rattle.seg_words.specs.Types.{Shape}
use Rattle.page_set.specs.Folded.{page_of, touched_once}
use Rattle.buffer_pool.specs.Preparing.{made}
use Rattle.buffer_pool.proofs.Stores.{looks_start}
use Rattle.buffer_pool.proofs.Made.{fresh, names_made, names_one}
use Rattle.buffer_pool.proofs.Prepared.{framed_now, one_has, one_applies, one_ready, one_not_fetched, one_not_made}
use Rattle.buffer_pool.proofs.pool.BufferPool.prepare_one.Goals as goal

pub made_one-requires : goal.made_one-requires
made_one-requires g c = rw c.deref-2.ensures.value (framed_now c.args.self.now c.gather.new.self _ c.gather.ensures.looks.shape (rw c.deref.ensures.value at c.in-Ok-gather.ensures.has))

pub returns-in-Err-gather-clause-answers : goal.returns-in-Err-gather-clause-answers
returns-in-Err-gather-clause-answers g c = λ pages image store s.
    one_not_fetched g.D.Disk.meaning c.args.disk.now c.gather.new.disk c.args.self.now c.gather.new.self c.gather.ensures.looks pages image store s c.args.rec.now c.args.lsn c.deref.result.now
    (c.deref.ensures.value ∙ c.in-Ok.ensures.list ∙ ap (λ (sh : Shape). touched_once sh c.args.rec.now) c.shape-shape.ensures) c.in-Err-gather.fault (c.in-Err-gather.ensures.why pages store)

pub returns-in-Ok-made_one-clause-frames : goal.returns-in-Ok-made_one-clause-frames
returns-in-Ok-made_one-clause-frames g c =
    one_has c.args.self.now c.gather.new.self c.deref-2.result.now c.args.rec.now c.args.lsn c.in-Ok-made_one.changed (rw c.deref-2.ensures.value (rw c.deref.ensures.value at c.in-Ok-gather.ensures.has)) c.in-Ok-made_one.ensures.done

pub returns-in-Ok-made_one-clause-applies : goal.returns-in-Ok-made_one-clause-applies
returns-in-Ok-made_one-clause-applies g c = λ pages image store s.
    one_applies g.D.Disk.meaning c.args.disk.now c.gather.new.disk c.args.self.now c.gather.new.self c.gather.ensures.looks pages image store s c.args.rec.now c.args.lsn c.deref-2.result.now
    (c.deref-2.ensures.value ∙ c.in-Ok.ensures.list ∙ ap (λ (sh : Shape). touched_once sh c.args.rec.now) c.shape-shape.ensures) c.in-Ok-made_one.changed
    (rw c.deref-2.ensures.value (rw c.deref.ensures.value at c.in-Ok-gather.ensures.has)) c.in-Ok-made_one.ensures.done

pub returns-in-Ok-made_one-clause-answers : goal.returns-in-Ok-made_one-clause-answers
returns-in-Ok-made_one-clause-answers g c = λ pages image store s.
    one_ready g.D.Disk.meaning c.args.disk.now c.gather.new.disk c.args.self.now c.gather.new.self c.gather.ensures.looks pages image store s c.args.rec.now c.args.lsn c.deref-2.result.now
    (c.deref-2.ensures.value ∙ c.in-Ok.ensures.list ∙ ap (λ (sh : Shape). touched_once sh c.args.rec.now) c.shape-shape.ensures) c.in-Ok-made_one.changed
    (rw c.deref-2.ensures.value (rw c.deref.ensures.value at c.in-Ok-gather.ensures.has)) c.in-Ok-made_one.ensures.fit

pub returns-in-Err-clause-looks : goal.returns-in-Err-clause-looks
returns-in-Err-clause-looks g c = looks_start g.D.Disk.meaning c.args.disk.now c.args.self.now

pub returns-in-Ok-made_one-clause-leads : goal.returns-in-Ok-made_one-clause-leads
returns-in-Ok-made_one-clause-leads g c = λ pages R store has e.
    let sh = c.args.self.now.shape in
    fresh sh R c.args.rec.now None c.args.lsn c.in-Ok-made_one.changed e (one_applies g.D.Disk.meaning c.args.disk.now c.gather.new.disk c.args.self.now c.gather.new.self c.gather.ensures.looks pages (page_of sh R) store has c.args.rec.now c.args.lsn c.deref-2.result.now
    (c.deref-2.ensures.value ∙ c.in-Ok.ensures.list ∙ ap (λ (sh : Shape). touched_once sh c.args.rec.now) c.shape-shape.ensures) c.in-Ok-made_one.changed
    (rw c.deref-2.ensures.value (rw c.deref.ensures.value at c.in-Ok-gather.ensures.has)) c.in-Ok-made_one.ensures.done)

pub returns-clause-answers : goal.returns-clause-answers
returns-clause-answers g c = λ pages image store s.
    one_not_made g.D.Disk.meaning c.args.disk.now c.gather.new.disk c.args.self.now c.gather.new.self c.gather.ensures.looks pages image store s c.args.rec.now c.args.lsn c.deref-2.result.now
    (c.deref-2.ensures.value ∙ c.in-Ok.ensures.list ∙ ap (λ (sh : Shape). touched_once sh c.args.rec.now) c.shape-shape.ensures) c.in-Err-made_one.fault
    (rw c.deref-2.ensures.value (rw c.deref.ensures.value at c.in-Ok-gather.ensures.has)) c.in-Err-made_one.ensures.why

pub returns-in-Err-gather-clause-names : goal.returns-in-Err-gather-clause-names
returns-in-Err-gather-clause-names g c = names_one c.args.self.now.shape c.args.rec.now c.deref.result.now c.in-Err-gather.fault (c.deref.ensures.value ∙ c.in-Ok.ensures.list ∙ ap (λ (sh : Shape). touched_once sh c.args.rec.now) c.shape-shape.ensures) c.in-Err-gather.ensures.names

pub returns-in-Ok-made_one-clause-made : goal.returns-in-Ok-made_one-clause-made
returns-in-Ok-made_one-clause-made g c = c.in-Ok-made_one.ensures.done ∙ ap (made c.args.rec.now c.args.lsn [] c.gather.new.self.held) (c.deref-2.ensures.value ∙ c.in-Ok.ensures.list ∙ ap (λ (sh : Shape). touched_once sh c.args.rec.now) c.shape-shape.ensures)

pub returns-clause-names : goal.returns-clause-names
returns-clause-names g c = names_made c.args.self.now.shape c.args.rec.now c.args.lsn c.gather.new.self.held c.deref-2.result.now c.in-Err-made_one.fault (c.deref-2.ensures.value ∙ c.in-Ok.ensures.list ∙ ap (λ (sh : Shape). touched_once sh c.args.rec.now) c.shape-shape.ensures) c.in-Err-made_one.ensures.why
