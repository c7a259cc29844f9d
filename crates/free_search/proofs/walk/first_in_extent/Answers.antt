use Rattle.std.proofs.Common.{◌-◌, min, ◌∙◌, sym, ap, Err}
use Rattle.store_core.proofs.Lookups.{looked_on, looked_ok, looked_err}
use Rattle.free_search.specs.Looks.{passes, row_sought}
use Rattle.free_search.proofs.Known.{fixed}
use Rattle.free_search.proofs.Extents.{segment_given, elsewhere, has_first, head_below, block_most, few_blocks, extent_says, extent_sound}
use Rattle.free_search.proofs.walk.first_in_extent.Goals as goal

pub returns-in-Err-clause-sound : goal.returns-in-Err-clause-sound
returns-in-Err-clause-sound g c = λ R t k m n. c.in-Err.ensures.sound R c.args.look.now.segment.obj t k.table (segment_given c.args.store.now.shape R c.args.look.now k) m n

pub returns-then-is_elsewhere-clause-looked : goal.returns-then-is_elsewhere-clause-looked
returns-then-is_elsewhere-clause-looked g c = looked_ok g.D.Disk.meaning c.args.store.now c.extent_number.new.store c.in-Ok.extent _ c.in-Ok.ensures.looked

pub returns-then-is_elsewhere-clause-says : goal.returns-then-is_elsewhere-clause-says
returns-then-is_elsewhere-clause-says g c = λ R t k m p.
    let l = c.args.look.now in
    let f = fixed g.D.Disk.meaning c.args.store.now R l t k in
    elsewhere R l (passes l.shape R (row_sought l) c.args.wanted.now) c.args.only c.args.index c.args.passed l.segment.high c.in-Ok.extent f (c.in-Ok.ensures.says R l.segment.obj t k.table (segment_given c.args.store.now.shape R l k)) m p (head_below l.shape c.args.index c.requires.shape) (sym c.is_elsewhere.ensures ∙ c.if-is_elsewhere.true)

pub returns-in-None-clause-looked : goal.returns-in-None-clause-looked
returns-in-None-clause-looked g c = looked_on g.D.Disk.meaning c.args.store.now c.extent_number.new.store c.refuse.new.self c.in-Ok.extent (Err c.refuse.result) c.in-Ok.ensures.looked (looked_err g.D.Disk.meaning c.extent_number.new.store c.refuse.new.self c.refuse.result c.refuse.ensures.looked)

pub returns-in-None-clause-sound : goal.returns-in-None-clause-sound
returns-in-None-clause-sound g c = λ R t k m n.
    let l = c.args.look.now in
    absurd (has_first R l c.args.index c.in-Ok.extent (fixed g.D.Disk.meaning c.args.store.now R l t k) (c.in-Ok.ensures.says R l.segment.obj t k.table (segment_given c.args.store.now.shape R l k)) (sym c.block_in.ensures ∙ c.in-None.is))

pub returns-clause-looked : goal.returns-clause-looked
returns-clause-looked g c = looked_on g.D.Disk.meaning c.args.store.now c.extent_number.new.store c.first_in_blocks.new.store c.in-Ok.extent c.first_in_blocks.result c.in-Ok.ensures.looked c.first_in_blocks.ensures.looked

pub returns-clause-says : goal.returns-clause-says
returns-clause-says g c = λ R t k m p.
    let l = c.args.look.now in
    extent_says g.D.Disk.meaning c.args.store.now c.extent_number.new.store R l c.args.wanted.now c.args.only c.args.index c.args.passed c.in-Ok.extent c.in-Some.first c.head_blocks-head.result c.room_under-count.result c.first_in_blocks.result t k c.in-Ok.ensures.looked
    (c.in-Ok.ensures.says R l.segment.obj t k.table (segment_given c.args.store.now.shape R l k)) (sym c.block_in.ensures ∙ c.in-Some.is) (sym c.is_elsewhere.ensures ∙ c.if-is_elsewhere.false) m p c.requires.under c.head_blocks-head.ensures.value (c.room_under-count.ensures.value ∙ ap (λ n. min (l.shape.extent - n) (l.segment.high - c.args.passed)) (sym c.head_blocks-head.ensures.value))
    (λ Q e q z f least most. c.first_in_blocks.ensures.says Q c.args.index e q z f least most)

pub returns-clause-sound : goal.returns-clause-sound
returns-clause-sound g c = λ R t k m n.
    let l = c.args.look.now in
    extent_sound g.D.Disk.meaning c.args.store.now c.extent_number.new.store R l c.args.index c.in-Ok.extent c.in-Some.first c.head_blocks-head.result c.room_under-count.result l.segment.high c.args.passed _ t k c.in-Ok.ensures.looked
    (c.in-Ok.ensures.says R l.segment.obj t k.table (segment_given c.args.store.now.shape R l k)) (sym c.block_in.ensures ∙ c.in-Some.is) c.head_blocks-head.ensures.value (c.room_under-count.ensures.value ∙ ap (λ n. min (l.shape.extent - n) (l.segment.high - c.args.passed)) (sym c.head_blocks-head.ensures.value))
    (λ Q e q z f least most. c.first_in_blocks.ensures.sound Q c.args.index e q z f least most)

pub first_in_blocks-requires-clause-first : goal.first_in_blocks-requires-clause-first
first_in_blocks-requires-clause-first g c = block_most c.args.look.now.shape c.in-Ok.extent 0 c.in-Some.first c.requires.shape (sym c.block_in.ensures ∙ c.in-Some.is)

pub first_in_blocks-requires-clause-few : goal.first_in_blocks-requires-clause-few
first_in_blocks-requires-clause-few g c = few_blocks c.args.look.now.shape c.args.index c.head_blocks-head.result c.room_under-count.result c.requires.shape c.head_blocks-head.ensures.value c.room_under-count.ensures.most
