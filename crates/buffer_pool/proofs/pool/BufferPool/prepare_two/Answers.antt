use Rattle.std.proofs.Common.{Some, ap, ◌∙◌}
use Rattle.seg_words.specs.Types.{Shape}
use Rattle.page_set.specs.Folded.{page_of, touched_once}
use Rattle.buffer_pool.proofs.Stores.{looks_start}
use Rattle.buffer_pool.proofs.Made.{fresh, names_made_two, names_two}
use Rattle.buffer_pool.proofs.Prepared.{left_now, two_have, two_apply, two_ready, two_not_fetched, two_not_made}
use Rattle.buffer_pool.proofs.pool.BufferPool.prepare_two.Goals as goal

pub made_two-requires-clause-frames : goal.made_two-requires-clause-frames
made_two-requires-clause-frames g c =
    left_now c.args.self.now c.gather.new.self c.in-Ok.blocks.first.items c.in-Ok.blocks.second.items c.in-Ok.blocks.all.items c.gather.ensures.looks.shape c.in-Ok.ensures.all (rw c.deref.ensures.value at c.in-Ok-gather.ensures.has)

pub returns-in-Err-gather-clause-answers : goal.returns-in-Err-gather-clause-answers
returns-in-Err-gather-clause-answers g c = λ pages image store s.
    let b = c.in-Ok.blocks in
    let is = c.in-Ok.ensures.first ∙ ap (λ (sh : Shape). touched_once sh c.args.first.now) c.shape-shape.ensures in
    let more = c.in-Ok.ensures.second ∙ ap (λ (sh : Shape). touched_once sh c.args.second.now) c.shape-shape.ensures in
    two_not_fetched g.D.Disk.meaning c.args.disk.now c.gather.new.disk c.args.self.now c.gather.new.self c.gather.ensures.looks pages image store s c.args.first.now c.args.second.now c.args.lsn
    b.first.items b.second.items b.all.items is more c.in-Ok.ensures.all c.in-Err-gather.fault (rw c.deref.ensures.value at (c.in-Err-gather.ensures.why pages store))

pub returns-in-Ok-made_two-clause-frames : goal.returns-in-Ok-made_two-clause-frames
returns-in-Ok-made_two-clause-frames g c =
    let b = c.in-Ok.blocks in
    two_have c.args.self.now c.gather.new.self b.first.items b.second.items b.all.items c.args.first.now c.args.second.now c.args.lsn c.in-Ok-made_two.changed c.in-Ok.ensures.all (rw c.deref.ensures.value at c.in-Ok-gather.ensures.has) c.in-Ok-made_two.ensures.done

pub returns-in-Ok-made_two-clause-applies : goal.returns-in-Ok-made_two-clause-applies
returns-in-Ok-made_two-clause-applies g c = λ pages image store s.
    let b = c.in-Ok.blocks in
    let is = c.in-Ok.ensures.first ∙ ap (λ (sh : Shape). touched_once sh c.args.first.now) c.shape-shape.ensures in
    let more = c.in-Ok.ensures.second ∙ ap (λ (sh : Shape). touched_once sh c.args.second.now) c.shape-shape.ensures in
    two_apply g.D.Disk.meaning c.args.disk.now c.gather.new.disk c.args.self.now c.gather.new.self c.gather.ensures.looks pages image store s c.args.first.now c.args.second.now c.args.lsn
    b.first.items b.second.items b.all.items is more c.in-Ok.ensures.all c.in-Ok-made_two.changed (rw c.deref.ensures.value at c.in-Ok-gather.ensures.has) c.in-Ok-made_two.ensures.done

pub returns-in-Ok-made_two-clause-answers : goal.returns-in-Ok-made_two-clause-answers
returns-in-Ok-made_two-clause-answers g c = λ pages image store s.
    let b = c.in-Ok.blocks in
    let is = c.in-Ok.ensures.first ∙ ap (λ (sh : Shape). touched_once sh c.args.first.now) c.shape-shape.ensures in
    let more = c.in-Ok.ensures.second ∙ ap (λ (sh : Shape). touched_once sh c.args.second.now) c.shape-shape.ensures in
    two_ready g.D.Disk.meaning c.args.disk.now c.gather.new.disk c.args.self.now c.gather.new.self c.gather.ensures.looks pages image store s c.args.first.now c.args.second.now c.args.lsn
    b.first.items b.second.items b.all.items is more c.in-Ok.ensures.all c.in-Ok-made_two.changed (rw c.deref.ensures.value at c.in-Ok-gather.ensures.has) c.in-Ok-made_two.ensures.fit

pub returns-in-Err-clause-looks : goal.returns-in-Err-clause-looks
returns-in-Err-clause-looks g c = looks_start g.D.Disk.meaning c.args.disk.now c.args.self.now

pub returns-in-Ok-made_two-clause-leads : goal.returns-in-Ok-made_two-clause-leads
returns-in-Ok-made_two-clause-leads g c = λ pages R store has e.
    let sh = c.args.self.now.shape in let b = c.in-Ok.blocks in
    let is = c.in-Ok.ensures.first ∙ ap (λ (sh : Shape). touched_once sh c.args.first.now) c.shape-shape.ensures in
    let more = c.in-Ok.ensures.second ∙ ap (λ (sh : Shape). touched_once sh c.args.second.now) c.shape-shape.ensures in
    fresh sh R c.args.first.now (Some c.args.second.now) c.args.lsn c.in-Ok-made_two.changed e (two_apply g.D.Disk.meaning c.args.disk.now c.gather.new.disk c.args.self.now c.gather.new.self c.gather.ensures.looks pages (page_of sh R) store has c.args.first.now c.args.second.now c.args.lsn
    b.first.items b.second.items b.all.items is more c.in-Ok.ensures.all c.in-Ok-made_two.changed (rw c.deref.ensures.value at c.in-Ok-gather.ensures.has) c.in-Ok-made_two.ensures.done)

pub returns-clause-answers : goal.returns-clause-answers
returns-clause-answers g c = λ pages image store s.
    let b = c.in-Ok.blocks in
    let is = c.in-Ok.ensures.first ∙ ap (λ (sh : Shape). touched_once sh c.args.first.now) c.shape-shape.ensures in
    let more = c.in-Ok.ensures.second ∙ ap (λ (sh : Shape). touched_once sh c.args.second.now) c.shape-shape.ensures in
    two_not_made g.D.Disk.meaning c.args.disk.now c.gather.new.disk c.args.self.now c.gather.new.self c.gather.ensures.looks pages image store s c.args.first.now c.args.second.now c.args.lsn
    b.first.items b.second.items b.all.items is more c.in-Ok.ensures.all c.in-Err-made_two.fault (rw c.deref.ensures.value at c.in-Ok-gather.ensures.has) c.in-Err-made_two.ensures.why

pub returns-in-Err-gather-clause-names : goal.returns-in-Err-gather-clause-names
returns-in-Err-gather-clause-names g c =
    let b = c.in-Ok.blocks in
    names_two c.args.self.now.shape c.args.first.now c.args.second.now b.first.items b.second.items b.all.items c.in-Err-gather.fault (c.in-Ok.ensures.first ∙ ap (λ (sh : Shape). touched_once sh c.args.first.now) c.shape-shape.ensures) (c.in-Ok.ensures.second ∙ ap (λ (sh : Shape). touched_once sh c.args.second.now) c.shape-shape.ensures) c.in-Ok.ensures.all (rw c.deref.ensures.value at c.in-Err-gather.ensures.names)

pub returns-clause-names : goal.returns-clause-names
returns-clause-names g c =
    let b = c.in-Ok.blocks in
    names_made_two c.args.self.now.shape c.args.first.now c.args.second.now c.args.lsn c.gather.new.self.held b.first.items b.second.items c.in-Err-made_two.fault (c.in-Ok.ensures.first ∙ ap (λ (sh : Shape). touched_once sh c.args.first.now) c.shape-shape.ensures) (c.in-Ok.ensures.second ∙ ap (λ (sh : Shape). touched_once sh c.args.second.now) c.shape-shape.ensures) c.in-Err-made_two.ensures.why
