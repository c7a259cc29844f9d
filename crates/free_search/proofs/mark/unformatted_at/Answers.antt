use Rattle.std.proofs.Common.{arith, ◌∙◌, ap, sym, Err}
use Rattle.seg_words.specs.Types.{Shape, first_block}
use Rattle.store_core.proofs.Lookups.{looked_on, looked_ok, looked_err}
use Rattle.free_search.proofs.Known.{fixed_segment}
use Rattle.free_search.proofs.Marks.{place_there, no_place, one_place, index_there, first_small, nth_small, positioned, code_here, at_unformatted, at_formatted}
use Rattle.free_search.proofs.mark.unformatted_at.Goals as goal

pub returns-in-None-clause-sound : goal.returns-in-None-clause-sound
returns-in-None-clause-sound g c = λ R t h l n. absurd (place_there R c.args.shape.now c.args.segment.now c.args.position (fixed_segment g.D.Disk.meaning c.args.store.now R c.args.shape.now c.args.segment.now t h) l (no_place c.args.shape.now c.args.segment.now.extents c.args.position c.place_at.result c.in-None.is c.place_at.ensures))

pub returns-in-Err-clause-sound : goal.returns-in-Err-clause-sound
returns-in-Err-clause-sound g c = λ R t h l n.
    let f = fixed_segment g.D.Disk.meaning c.args.store.now R c.args.shape.now c.args.segment.now t h in
    let w = one_place c.args.shape.now c.args.segment.now.extents c.args.position c.in-Some.place c.place_at.result c.in-Some.is c.place_at.ensures in
    c.in-Err.ensures.sound R t h (index_there R c.args.shape.now c.args.segment.now c.in-Some.place c.args.position f w) (first_small R c.args.shape.now c.args.segment.now f) n

pub returns-in-Err-code_at-clause-looked : goal.returns-in-Err-code_at-clause-looked
returns-in-Err-code_at-clause-looked g c = looked_on g.D.Disk.meaning c.args.store.now c.block_of.new.store c.code_at.new.store c.in-Ok.first (Err c.in-Err-code_at.fault) c.in-Ok.ensures.looked (looked_err g.D.Disk.meaning c.block_of.new.store c.code_at.new.store c.in-Err-code_at.fault c.in-Err-code_at.ensures.looked)

pub returns-in-Err-code_at-clause-sound : goal.returns-in-Err-code_at-clause-sound
returns-in-Err-code_at-clause-sound g c = λ R t h l n.
    let k = c.args.shape.now in
    let s = c.args.segment.now in
    let f = fixed_segment g.D.Disk.meaning c.args.store.now R k s t h in
    let w = one_place k s.extents c.args.position c.in-Some.place c.place_at.result c.in-Some.is c.place_at.ensures in
    let at = positioned R k s c.in-Some.place c.args.position c.in-Ok.first f w (c.in-Ok.ensures.says R t h) in
    c.in-Err-code_at.ensures.sound R s.obj c.in-Some.place.index at.extent (c.in-Ok.ensures.looked.stays_true R t) h.table at.at (at.begins ∙ ap (λ (x : Shape). first_block x at.extent.number) (h.shape ∙ sym c.in-Ok.ensures.looked.loan.shape)) (nth_small R k s c.in-Some.place c.args.position f w) (c.in-Ok.ensures.looked.cause.kept n)

pub returns-then-code-ne0-clause-looked : goal.returns-then-code-ne0-clause-looked
returns-then-code-ne0-clause-looked g c = looked_ok g.D.Disk.meaning c.args.store.now c.code_at.new.store c.in-Ok-code_at.code _ (looked_on g.D.Disk.meaning c.args.store.now c.block_of.new.store c.code_at.new.store c.in-Ok.first _ c.in-Ok.ensures.looked c.in-Ok-code_at.ensures.looked)

pub returns-then-code-ne0-clause-says : goal.returns-then-code-ne0-clause-says
returns-then-code-ne0-clause-says g c = λ R t h l.
    let k = c.args.shape.now in
    let s = c.args.segment.now in
    let f = fixed_segment g.D.Disk.meaning c.args.store.now R k s t h in
    let w = one_place k s.extents c.args.position c.in-Some.place c.place_at.result c.in-Some.is c.place_at.ensures in
    let at = positioned R k s c.in-Some.place c.args.position c.in-Ok.first f w (c.in-Ok.ensures.says R t h) in
    at_formatted R k s c.in-Some.place c.args.position c.in-Ok.first c.in-Ok-code_at.code f.lawful.allowed at
    (code_here g.D.Disk.meaning c.block_of.new.store R k s c.in-Some.place c.args.position c.in-Ok.first c.in-Ok-code_at.code (h.shape ∙ sym c.in-Ok.ensures.looked.loan.shape) (c.in-Ok.ensures.looked.stays_true R t) at (λ Q o i e q x y z. c.in-Ok-code_at.ensures.says Q o i e q x y z))
    (let ne = c.if-code-ne0.true in omega (arith, ne))

pub returns-clause-looked : goal.returns-clause-looked
returns-clause-looked g c = looked_ok g.D.Disk.meaning c.args.store.now c.code_at.new.store c.in-Ok-code_at.code _ (looked_on g.D.Disk.meaning c.args.store.now c.block_of.new.store c.code_at.new.store c.in-Ok.first _ c.in-Ok.ensures.looked c.in-Ok-code_at.ensures.looked)

pub returns-clause-says : goal.returns-clause-says
returns-clause-says g c = λ R t h l.
    let k = c.args.shape.now in
    let s = c.args.segment.now in
    let f = fixed_segment g.D.Disk.meaning c.args.store.now R k s t h in
    let w = one_place k s.extents c.args.position c.in-Some.place c.place_at.result c.in-Some.is c.place_at.ensures in
    let at = positioned R k s c.in-Some.place c.args.position c.in-Ok.first f w (c.in-Ok.ensures.says R t h) in
    at_unformatted R k s c.in-Some.place c.args.position c.in-Ok.first c.in-Ok-code_at.code c.nth_block.result f.lawful.allowed at
    (code_here g.D.Disk.meaning c.block_of.new.store R k s c.in-Some.place c.args.position c.in-Ok.first c.in-Ok-code_at.code (h.shape ∙ sym c.in-Ok.ensures.looked.loan.shape) (c.in-Ok.ensures.looked.stays_true R t) at (λ Q o i e q x y z. c.in-Ok-code_at.ensures.says Q o i e q x y z))
    c.if-code-ne0.false c.nth_block.ensures
