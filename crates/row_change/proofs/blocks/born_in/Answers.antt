use Rattle.std.proofs.Common.{sym, ◌∙◌, ap, true≢false}
use Rattle.seg_words.specs.Types.{Shape, first_block}
use Rattle.store_core.proofs.Lookups.{refused_after}
use Rattle.row_change.proofs.Having.{first_has}
use Rattle.row_change.proofs.blocks.born_in.Goals as goal

pub returns-in-Err-clause-sound : goal.returns-in-Err-clause-sound
returns-in-Err-clause-sound g c = λ R o index e t i at is n. c.in-Err.ensures.sound R t.list n (first_has c.args.store.now.shape R o index c.args.first e t.list.within t.lawful.allowed i at is)

pub returns-in-Ok-told_incarnation-clause-says : goal.returns-in-Ok-told_incarnation-clause-says
returns-in-Ok-told_incarnation-clause-says g c = λ R o index e t at is. c.in-Ok-told_incarnation.ensures.says R o index e (c.in-Ok.ensures.looked.stays_true R t) at (is ∙ ap (λ (z : Shape). first_block z e.number) (sym c.in-Ok.ensures.looked.loan.shape))

pub returns-in-Err-told_incarnation-clause-looked : goal.returns-in-Err-told_incarnation-clause-looked
returns-in-Err-told_incarnation-clause-looked g c = refused_after g.D.Disk.meaning c.args.store.now c.fetch.new.self c.refuse.new.self c.in-Ok.field-0 c.refuse.result c.in-Ok.ensures.looked c.refuse.ensures.looked

pub returns-in-Err-told_incarnation-clause-sound : goal.returns-in-Err-told_incarnation-clause-sound
returns-in-Err-told_incarnation-clause-sound g c = λ R o index e t i at is n. absurd (true≢false (sym (c.in-Err-told_incarnation.ensures.right R o index e (c.in-Ok.ensures.looked.stays_true R t) at (is ∙ ap (λ (z : Shape). first_block z e.number) (sym c.in-Ok.ensures.looked.loan.shape)))))
