use Rattle.std.proofs.Common.{◌≡◌, ◌*◌, sym, ◌∙◌, ap, subst, true≢false}
use Rattle.seg_words.specs.Types.{EXTENTS_OF_L2, Shape}
use Rattle.redo_model.specs.Model.{best_in_l2, extents_of, l3_of}
use Rattle.store_core.proofs.Lookups.{refused_after}
use Rattle.free_search.proofs.Thirds.{third_has}
use Rattle.free_search.proofs.group.best_by_third.Goals as goal

pub returns-in-Err-clause-sound : goal.returns-in-Err-clause-sound
returns-in-Err-clause-sound g c = λ R o e t i at is l n. c.in-Err.ensures.sound R t.list n (third_has c.args.store.now.shape R o c.args.third e t.list.within t.lawful i at is)

pub returns-in-Ok-told_group-clause-says : goal.returns-in-Ok-told_group-clause-says
returns-in-Ok-told_group-clause-says g c = λ R o e t at is.
    let same = c.in-Ok.ensures.looked.loan.shape in
    subst (λ (sh : Shape). c.in-Ok-told_group.best ≡ best_in_l2 sh R o (EXTENTS_OF_L2 * c.args.group)) same
    (c.in-Ok-told_group.ensures.says R o e (c.in-Ok.ensures.looked.stays_true R t) at (is ∙ ap (λ (sh : Shape). l3_of sh (extents_of R o)) (sym same)))

pub returns-in-Err-told_group-clause-looked : goal.returns-in-Err-told_group-clause-looked
returns-in-Err-told_group-clause-looked g c = refused_after g.D.Disk.meaning c.args.store.now c.fetch.new.self c.refuse.new.self c.in-Ok.field-0 c.refuse.result c.in-Ok.ensures.looked c.refuse.ensures.looked

pub returns-in-Err-told_group-clause-sound : goal.returns-in-Err-told_group-clause-sound
returns-in-Err-told_group-clause-sound g c = λ R o e t i at is l n. absurd (true≢false (sym (c.in-Err-told_group.ensures.right R o e (c.in-Ok.ensures.looked.stays_true R t) at (is ∙ ap (λ (sh : Shape). l3_of sh (extents_of R o)) (sym c.in-Ok.ensures.looked.loan.shape)) l)))
