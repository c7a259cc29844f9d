use Rattle.std.proofs.Common.{Some, None, ◌∙◌, sym, ap}
use Rattle.seg_words.specs.Types.{Shape}
use Rattle.mark_laws.specs.Movements.{least_free}
use Rattle.store_core.proofs.Lookups.{looked_ok, looked_same}
use Rattle.free_search.proofs.Finding.{grows_up, grows_no_more, grows_by}
use Rattle.free_search.proofs.mark.next_growth.Goals as goal

pub returns-then-segment-count-clause-looked : goal.returns-then-segment-count-clause-looked
returns-then-segment-count-clause-looked g c = looked_same g.D.Disk.meaning c.args.store.now _ c.requires.unspent

pub returns-then-segment-count-clause-says : goal.returns-then-segment-count-clause-says
returns-then-segment-count-clause-says g c = λ R t h. grows_up R c.args.shape.now c.args.segment.now c.data_count-count.result h.segment c.data_count-count.ensures.value c.if-segment-count.true

pub returns-then-segment-ge-MOST_EXTENTS-clause-looked : goal.returns-then-segment-ge-MOST_EXTENTS-clause-looked
returns-then-segment-ge-MOST_EXTENTS-clause-looked g c = looked_same g.D.Disk.meaning c.args.store.now _ c.requires.unspent

pub returns-then-segment-ge-MOST_EXTENTS-clause-says : goal.returns-then-segment-ge-MOST_EXTENTS-clause-says
returns-then-segment-ge-MOST_EXTENTS-clause-says g c = λ R t h. grows_no_more R c.args.shape.now c.args.segment.now c.data_count-count.result h.segment c.data_count-count.ensures.value c.if-segment-count.false c.if-segment-ge-MOST_EXTENTS.true

pub returns-in-Ok-Some-clause-looked : goal.returns-in-Ok-Some-clause-looked
returns-in-Ok-Some-clause-looked g c = looked_ok g.D.Disk.meaning c.args.store.now c.find_free.new.store c.in-Ok-Some.field-0 _ c.in-Ok-Some.ensures.looked

pub returns-in-Ok-Some-clause-says : goal.returns-in-Ok-Some-clause-says
returns-in-Ok-Some-clause-says g c = λ R t h. grows_by R c.args.shape.now c.args.segment.now c.data_count-count.result (Some c.in-Ok-Some.extent) h.segment c.data_count-count.ensures.value c.if-segment-count.false c.if-segment-ge-MOST_EXTENTS.false (sym c.in-Ok-Some.field-0-is ∙ c.in-Ok-Some.ensures.says R t ∙ ap (λ (x : Shape). least_free x R) (sym h.shape))

pub returns-in-Ok-None-clause-looked : goal.returns-in-Ok-None-clause-looked
returns-in-Ok-None-clause-looked g c = looked_ok g.D.Disk.meaning c.args.store.now c.find_free.new.store c.in-Ok-None.field-0 _ c.in-Ok-None.ensures.looked

pub returns-in-Ok-None-clause-says : goal.returns-in-Ok-None-clause-says
returns-in-Ok-None-clause-says g c = λ R t h. grows_by R c.args.shape.now c.args.segment.now c.data_count-count.result None h.segment c.data_count-count.ensures.value c.if-segment-count.false c.if-segment-ge-MOST_EXTENTS.false (sym c.in-Ok-None.field-0-is ∙ c.in-Ok-None.ensures.says R t ∙ ap (λ (x : Shape). least_free x R) (sym h.shape))

pub returns-in-Err-clause-sound : goal.returns-in-Err-clause-sound
returns-in-Err-clause-sound g c = λ R t. c.in-Err.ensures.sound R t c.requires.unspent
