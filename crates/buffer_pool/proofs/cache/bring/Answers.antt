use Rattle.std.proofs.Common.{◌≡◌, sym, ◌∙◌}
use Rattle.page_store.specs.Types.{block}
use Rattle.page_set.specs.declared.page.Page.{Page}
use Rattle.page_set.specs.Spelled.{meaning_of}
use Rattle.buffer_pool.specs.Frames.{frame_at, in_file, IsSpelled}
use Rattle.buffer_pool.specs.Reading.{IsSpelledIn}
use Rattle.buffer_pool.proofs.Recency.{brought_from, gives_from, gives_none, no_both, promoted_none}
use Rattle.buffer_pool.proofs.Drops.{keeps_then, keeps_same, dirty_then, dirty_same, frames_same}
use Rattle.buffer_pool.proofs.Fetches.{is_none, fetched_hit, fetched_read, fetched_err, fetched_memory, written, only_added, only_same}
use Rattle.buffer_pool.proofs.cache.bring.Goals as goal

pub returns-then-promote-clause-page : goal.returns-then-promote-clause-page
returns-then-promote-clause-page g c = λ pages s. fetched_hit c.args.store.now c.args.block (IsSpelled c.args.block (pages c.args.block)) (frame_at c.args.frames.now.entries c.args.block) (sym c.promote.ensures.value ∙ c.if-promote.true)

pub returns-then-promote-clause-found : goal.returns-then-promote-clause-found
returns-then-promote-clause-found g c = λ told. fetched_hit c.args.store.now c.args.block (IsSpelledIn c.args.block (g.D.Disk.meaning.files c.args.disk.now).data_bytes) (frame_at c.args.frames.now.entries c.args.block) (sym c.promote.ensures.value ∙ c.if-promote.true)

pub returns-then-promote-clause-keeps : goal.returns-then-promote-clause-keeps
returns-then-promote-clause-keeps g c = λ pages s. keeps_same pages c.args.frames.now.entries c.promote.new.frames.entries c.promote.ensures.same

pub returns-then-promote-clause-same_dirty : goal.returns-then-promote-clause-same_dirty
returns-then-promote-clause-same_dirty g c = dirty_same c.args.frames.now.entries c.promote.new.frames.entries c.promote.ensures.same

pub returns-then-promote-clause-only : goal.returns-then-promote-clause-only
returns-then-promote-clause-only g c = only_same c.args.store.now c.args.block c.args.frames.now.entries c.promote.new.frames.entries c.promote.ensures.same

pub returns-then-promote-clause-has : goal.returns-then-promote-clause-has
returns-then-promote-clause-has g c = rw (c.promote.ensures.same c.args.block) (sym c.promote.ensures.value ∙ c.if-promote.true)

pub returns-then-promote-clause-stays : goal.returns-then-promote-clause-stays
returns-then-promote-clause-stays g c = λ room. frames_same c.args.frames.now.entries c.promote.new.frames.entries c.promote.ensures.same

pub returns-in-Err-clause-page : goal.returns-in-Err-clause-page
returns-in-Err-clause-page g c = λ pages s. fetched_err c.args.store.now c.args.block (IsSpelled c.args.block (pages c.args.block)) (frame_at c.args.frames.now.entries c.args.block) (λ (p : Page). p ≡ in_file pages c.args.block) c.in-Err.fault (sym c.promote.ensures.value ∙ c.if-promote.false) (c.in-Err.ensures.page pages s)

pub returns-in-Err-clause-found : goal.returns-in-Err-clause-found
returns-in-Err-clause-found g c = λ told. fetched_err c.args.store.now c.args.block (IsSpelledIn c.args.block (g.D.Disk.meaning.files c.args.disk.now).data_bytes) (frame_at c.args.frames.now.entries c.args.block) (λ (p : Page). p ≡ meaning_of c.args.block (block c.args.block (g.D.Disk.meaning.files c.args.disk.now).data_bytes)) c.in-Err.fault (sym c.promote.ensures.value ∙ c.if-promote.false) (c.in-Err.ensures.found told)

pub returns-in-Err-clause-keeps : goal.returns-in-Err-clause-keeps
returns-in-Err-clause-keeps g c = λ pages s. keeps_same pages c.args.frames.now.entries c.promote.new.frames.entries c.promote.ensures.same

pub returns-in-Err-clause-same_dirty : goal.returns-in-Err-clause-same_dirty
returns-in-Err-clause-same_dirty g c = dirty_same c.args.frames.now.entries c.promote.new.frames.entries c.promote.ensures.same

pub returns-in-Err-clause-only : goal.returns-in-Err-clause-only
returns-in-Err-clause-only g c = only_same c.args.store.now c.args.block c.args.frames.now.entries c.promote.new.frames.entries c.promote.ensures.same

pub returns-in-Err-clause-stays : goal.returns-in-Err-clause-stays
returns-in-Err-clause-stays g c = λ room. frames_same c.args.frames.now.entries c.promote.new.frames.entries c.promote.ensures.same

pub take_in-requires-clause-absent : goal.take_in-requires-clause-absent
take_in-requires-clause-absent g c = is_none _ (rw (c.promote.ensures.same c.args.block) (sym c.promote.ensures.value ∙ c.if-promote.false))

pub returns-in-Ok-take_in-clause-page : goal.returns-in-Ok-take_in-clause-page
returns-in-Ok-take_in-clause-page g c = λ pages s. fetched_read c.args.store.now c.args.block (IsSpelled c.args.block (pages c.args.block)) (frame_at c.args.frames.now.entries c.args.block) (λ (p : Page). p ≡ in_file pages c.args.block) c.in-Ok.page (sym c.promote.ensures.value ∙ c.if-promote.false) (c.in-Ok.ensures.page pages s)

pub returns-in-Ok-take_in-clause-found : goal.returns-in-Ok-take_in-clause-found
returns-in-Ok-take_in-clause-found g c = λ told. fetched_read c.args.store.now c.args.block (IsSpelledIn c.args.block (g.D.Disk.meaning.files c.args.disk.now).data_bytes) (frame_at c.args.frames.now.entries c.args.block) (λ (p : Page). p ≡ meaning_of c.args.block (block c.args.block (g.D.Disk.meaning.files c.args.disk.now).data_bytes)) c.in-Ok.page (sym c.promote.ensures.value ∙ c.if-promote.false) (c.in-Ok.ensures.found told)

pub returns-in-Ok-take_in-clause-keeps : goal.returns-in-Ok-take_in-clause-keeps
returns-in-Ok-take_in-clause-keeps g c = λ pages s.
    let a = c.args.frames.now.entries in let b = c.promote.new.frames.entries in
    keeps_then pages a b c.take_in.new.frames.entries (keeps_same pages a b c.promote.ensures.same) (c.take_in.ensures.keeps pages (written c.args.store.now c.args.block pages c.in-Ok.page (c.in-Ok.ensures.page pages s)))

pub returns-in-Ok-take_in-clause-same_dirty : goal.returns-in-Ok-take_in-clause-same_dirty
returns-in-Ok-take_in-clause-same_dirty g c =
    let a = c.args.frames.now.entries in let b = c.promote.new.frames.entries in
    dirty_then a b c.take_in.new.frames.entries (dirty_same a b c.promote.ensures.same) c.take_in.ensures.same_dirty

pub returns-in-Ok-take_in-clause-only : goal.returns-in-Ok-take_in-clause-only
returns-in-Ok-take_in-clause-only g c =
    only_added c.args.store.now c.args.block c.args.frames.now.entries c.take_in.new.frames.entries (λ d other none. c.take_in.ensures.absent d other (c.promote.ensures.same d ∙ none)) c.in-Ok.ensures.has

pub returns-in-Err-take_in-clause-page : goal.returns-in-Err-take_in-clause-page
returns-in-Err-take_in-clause-page g c = λ pages s. fetched_memory c.args.store.now c.args.block (IsSpelled c.args.block (pages c.args.block)) (frame_at c.args.frames.now.entries c.args.block) (sym c.promote.ensures.value ∙ c.if-promote.false)

pub returns-in-Err-take_in-clause-found : goal.returns-in-Err-take_in-clause-found
returns-in-Err-take_in-clause-found g c = λ told. fetched_memory c.args.store.now c.args.block (IsSpelledIn c.args.block (g.D.Disk.meaning.files c.args.disk.now).data_bytes) (frame_at c.args.frames.now.entries c.args.block) (sym c.promote.ensures.value ∙ c.if-promote.false)

pub returns-in-Err-take_in-clause-keeps : goal.returns-in-Err-take_in-clause-keeps
returns-in-Err-take_in-clause-keeps g c = λ pages s.
    let a = c.args.frames.now.entries in let b = c.promote.new.frames.entries in
    keeps_then pages a b c.take_in.new.frames.entries (keeps_same pages a b c.promote.ensures.same) (c.take_in.ensures.keeps pages (written c.args.store.now c.args.block pages c.in-Ok.page (c.in-Ok.ensures.page pages s)))

pub returns-in-Err-take_in-clause-same_dirty : goal.returns-in-Err-take_in-clause-same_dirty
returns-in-Err-take_in-clause-same_dirty g c =
    let a = c.args.frames.now.entries in let b = c.promote.new.frames.entries in
    dirty_then a b c.take_in.new.frames.entries (dirty_same a b c.promote.ensures.same) c.take_in.ensures.same_dirty

pub returns-in-Err-take_in-clause-only : goal.returns-in-Err-take_in-clause-only
returns-in-Err-take_in-clause-only g c =
    only_added c.args.store.now c.args.block c.args.frames.now.entries c.take_in.new.frames.entries (λ d other none. c.take_in.ensures.absent d other (c.promote.ensures.same d ∙ none)) c.in-Ok.ensures.has

pub returns-then-promote-clause-brought : goal.returns-then-promote-clause-brought
returns-then-promote-clause-brought g c = λ none. absurd (no_both (frame_at c.args.frames.now.entries c.args.block) (sym c.promote.ensures.value ∙ c.if-promote.true) none)

pub returns-in-Err-clause-gives : goal.returns-in-Err-clause-gives
returns-in-Err-clause-gives g c =
    let a = c.args.frames.now.entries in
    let none = is_none (frame_at a c.args.block) (sym c.promote.ensures.value ∙ c.if-promote.false) in
    rw (c.promote.ensures.moved ∙ promoted_none c.args.block a none) (gives_none 1 c.args.frames.now.cap a)

pub returns-in-Ok-take_in-clause-moved : goal.returns-in-Ok-take_in-clause-moved
returns-in-Ok-take_in-clause-moved g c = λ has. absurd (no_both (frame_at c.args.frames.now.entries c.args.block) has (is_none (frame_at c.args.frames.now.entries c.args.block) (sym c.promote.ensures.value ∙ c.if-promote.false)))

pub returns-in-Err-take_in-clause-moved : goal.returns-in-Err-take_in-clause-moved
returns-in-Err-take_in-clause-moved g c = λ has. absurd (no_both (frame_at c.args.frames.now.entries c.args.block) has (is_none (frame_at c.args.frames.now.entries c.args.block) (sym c.promote.ensures.value ∙ c.if-promote.false)))

pub returns-in-Ok-take_in-clause-brought : goal.returns-in-Ok-take_in-clause-brought
returns-in-Ok-take_in-clause-brought g c = λ none.
    let a = c.args.frames.now.entries in
    brought_from c.args.frames.now.cap c.promote.new.frames.cap c.args.block a c.promote.new.frames.entries c.take_in.new.frames.entries c.promote.ensures.cap (c.promote.ensures.moved ∙ promoted_none c.args.block a none) c.in-Ok-take_in.ensures.brought

pub returns-in-Err-take_in-clause-gives : goal.returns-in-Err-take_in-clause-gives
returns-in-Err-take_in-clause-gives g c =
    let a = c.args.frames.now.entries in
    let none = is_none (frame_at a c.args.block) (sym c.promote.ensures.value ∙ c.if-promote.false) in
    gives_from c.args.frames.now.cap c.promote.new.frames.cap a c.promote.new.frames.entries c.take_in.new.frames.entries c.promote.ensures.cap (c.promote.ensures.moved ∙ promoted_none c.args.block a none) c.in-Err-take_in.ensures.gives
