use Rattle.std.proofs.Common.{sym, ◌∙◌, true≢false}
use Rattle.mark_move.proofs.Truth.{segment_has}
use Rattle.store_core.proofs.Lookups.{refused_after}
use Rattle.mark_move.proofs.recording.format_record.Goals as goal

pub returns-in-Err-clause-sound : goal.returns-in-Err-clause-sound
returns-in-Err-clause-sound g c = λ R o t i e is l n. c.in-Err.ensures.sound R t.list n (segment_has c.args.shape.now c.args.store.now.shape R o c.args.segment.now.header t.list.within t.lawful i e is.header)

pub returns-in-Err-told_format-clause-looked : goal.returns-in-Err-told_format-clause-looked
returns-in-Err-told_format-clause-looked g c = refused_after g.D.Disk.meaning c.args.store.now c.fetch.new.self c.refuse.new.self c.in-Ok.field-0 c.refuse.result c.in-Ok.ensures.looked c.refuse.ensures.looked

pub returns-in-Err-told_format-clause-sound : goal.returns-in-Err-told_format-clause-sound
returns-in-Err-told_format-clause-sound g c = λ R o t i e is l n. absurd (true≢false (sym (c.in-Err-told_format.ensures.right R o (c.in-Ok.ensures.looked.stays_true R t) i (e ∙ sym c.in-Ok.ensures.looked.loan.shape) is l)))
