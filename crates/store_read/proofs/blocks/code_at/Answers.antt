use Rattle.std.proofs.Common.{◌≡◌, ℕ, ◌+◌, true, IfOk, sym, ◌∙◌, ap, subst, true≢false}
use Rattle.seg_words.specs.Types.{Shape, first_block}
use Rattle.redo_model.specs.Model.{code_of, extent_data}
use Rattle.redo_laws.specs.Among.{is_in}
use Rattle.store_read.proofs.Truth.{first_has}
use Rattle.store_core.proofs.Lookups.{refused_after}
use Rattle.store_read.proofs.blocks.code_at.Goals as goal

pub returns-in-Err-clause-sound : goal.returns-in-Err-clause-sound
returns-in-Err-clause-sound g c = λ R o index e t i at is l n. c.in-Err.ensures.sound R t.list n (first_has c.args.store.now.shape R o index c.args.first e t.list.within t.lawful i at is)

pub returns-in-Ok-told_code-clause-says : goal.returns-in-Ok-told_code-clause-says
returns-in-Ok-told_code-clause-says g c = λ R o index e t at is m.
    let same = c.in-Ok.ensures.looked.loan.shape in
    subst (λ (sh : Shape). c.in-Ok-told_code.code ≡ code_of sh R (c.args.first + c.args.nth)) same
    (c.in-Ok-told_code.ensures.says R o index e (c.in-Ok.ensures.looked.stays_true R t) at (is ∙ ap (λ (sh : Shape). first_block sh e.number) (sym same))
    (subst (λ (sh : Shape). is_in (c.args.first + c.args.nth) (extent_data sh index e.number) ≡ true) (sym same) m))

pub returns-in-Err-told_code-clause-looked : goal.returns-in-Err-told_code-clause-looked
returns-in-Err-told_code-clause-looked g c = refused_after g.D.Disk.meaning c.args.store.now c.fetch.new.self c.refuse.new.self c.in-Ok.field-0 c.refuse.result c.in-Ok.ensures.looked c.refuse.ensures.looked

pub returns-in-Err-told_code-clause-sound : goal.returns-in-Err-told_code-clause-sound
returns-in-Err-told_code-clause-sound g c = λ R o index e t i at is l n. absurd (true≢false (sym (c.in-Err-told_code.ensures.right R o index e (c.in-Ok.ensures.looked.stays_true R t) at (is ∙ ap (λ (sh : Shape). first_block sh e.number) (sym c.in-Ok.ensures.looked.loan.shape)) l)))
