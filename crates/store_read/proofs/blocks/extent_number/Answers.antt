use Rattle.std.proofs.Common.{sym, ◌∙◌, ap, true≢false}
use Rattle.seg_words.specs.Types.{Shape}
use Rattle.redo_model.specs.Model.{extents_of, header_of}
use Rattle.store_read.proofs.Truth.{header_at_has}
use Rattle.store_core.proofs.Lookups.{refused_after}
use Rattle.store_read.proofs.blocks.extent_number.Goals as goal

pub returns-in-Err-clause-sound : goal.returns-in-Err-clause-sound
returns-in-Err-clause-sound g c = λ R o t i is l n. c.in-Err.ensures.sound R t.list n (header_at_has c.args.store.now.shape R o c.args.segment.now.header t.list.within t.lawful i is.header)

pub returns-in-Ok-told_extent-clause-says : goal.returns-in-Ok-told_extent-clause-says
returns-in-Ok-told_extent-clause-says g c = λ R o t i is. c.in-Ok-told_extent.ensures.says R o (c.in-Ok.ensures.looked.stays_true R t) i (is.header ∙ ap (λ (sh : Shape). header_of sh (extents_of R o)) (sym c.in-Ok.ensures.looked.loan.shape))

pub returns-in-Err-told_extent-clause-looked : goal.returns-in-Err-told_extent-clause-looked
returns-in-Err-told_extent-clause-looked g c = refused_after g.D.Disk.meaning c.args.store.now c.fetch.new.self c.refuse.new.self c.in-Ok.field-0 c.refuse.result c.in-Ok.ensures.looked c.refuse.ensures.looked

pub returns-in-Err-told_extent-clause-sound : goal.returns-in-Err-told_extent-clause-sound
returns-in-Err-told_extent-clause-sound g c = λ R o t i is l n. absurd (true≢false (sym (c.in-Err-told_extent.ensures.right R o (c.in-Ok.ensures.looked.stays_true R t) i (is.header ∙ ap (λ (sh : Shape). header_of sh (extents_of R o)) (sym c.in-Ok.ensures.looked.loan.shape)) l)))
