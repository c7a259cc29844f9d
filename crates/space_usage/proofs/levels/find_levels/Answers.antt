use Rattle.std.proofs.Common.{◌≡◌, Ok, ◌∙◌, sym, subst, true≢false}
use Rattle.seg_words.specs.Types.{Shape}
use Rattle.store_core.proofs.Lookups.{refused_after}
use Rattle.space_usage.specs.Keeping.{levels_of}
use Rattle.space_usage.proofs.Bitmaps.{header_there}
use Rattle.space_usage.proofs.Stored.{block_later, segment_later}
use Rattle.space_usage.proofs.levels.find_levels.Goals as goal

pub returns-in-Err-clause-sound : goal.returns-in-Err-clause-sound
returns-in-Err-clause-sound g c = λ R o h is n. c.in-Err.ensures.sound R h.holds.list n (header_there g.D.Disk.meaning R o c.args.dba c.args.store.now c.args.segment.now h is)

pub returns-in-Ok-told_levels-clause-says : goal.returns-in-Ok-told_levels-clause-says
returns-in-Ok-told_levels-clause-says g c = λ R o h is.
    let M = g.D.Disk.meaning in
    let a = c.args.store.now in
    let b = c.fetch.new.self in
    let p = c.in-Ok.ensures.looked in
    subst (λ (sh : Shape). c.in-Ok-told_levels.levels ≡ levels_of sh R o c.args.dba) p.loan.shape
    (c.in-Ok-told_levels.ensures.says R o (block_later M a b R o c.args.dba (Ok c.in-Ok.field-0) p h) (c.shape-shape.ensures ∙ sym p.loan.shape) (segment_later M a b R o c.args.segment.now p.loan is))

pub returns-in-Err-told_levels-clause-looked : goal.returns-in-Err-told_levels-clause-looked
returns-in-Err-told_levels-clause-looked g c = refused_after g.D.Disk.meaning c.args.store.now c.fetch.new.self c.refuse-in-Err-told_levels.new.self c.in-Ok.field-0 c.refuse-in-Err-told_levels.result c.in-Ok.ensures.looked c.refuse-in-Err-told_levels.ensures.looked

pub returns-in-Err-told_levels-clause-sound : goal.returns-in-Err-told_levels-clause-sound
returns-in-Err-told_levels-clause-sound g c = λ R o h is n.
    let M = g.D.Disk.meaning in
    let a = c.args.store.now in
    let b = c.fetch.new.self in
    let p = c.in-Ok.ensures.looked in
    absurd (true≢false (sym (c.in-Err-told_levels.ensures.right R o (block_later M a b R o c.args.dba (Ok c.in-Ok.field-0) p h) (c.shape-shape.ensures ∙ sym p.loan.shape) (segment_later M a b R o c.args.segment.now p.loan is))))
