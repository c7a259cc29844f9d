use Rattle.std.proofs.Common.{sym, ◌∙◌, ap, subst, true≢false}
use Rattle.seg_words.specs.Types.{Shape}
use Rattle.redo_model.specs.Model.{extents_of, l2_of}
use Rattle.store_core.proofs.Lookups.{refused_after}
use Rattle.free_search.specs.Codes.{LacksGoodNth}
use Rattle.free_search.proofs.Bests.{second_has}
use Rattle.free_search.proofs.extent.next_by_second.Goals as goal

pub returns-in-Err-clause-sound : goal.returns-in-Err-clause-sound
returns-in-Err-clause-sound g c = λ R o e t i at is l n. c.in-Err.ensures.sound R t.list n (second_has c.args.store.now.shape R o c.args.start c.args.second e t.list.within t.lawful i c.requires.group at is)

pub returns-in-Ok-told_next-clause-says : goal.returns-in-Ok-told_next-clause-says
returns-in-Ok-told_next-clause-says g c = λ R o e t at is.
    let same = c.in-Ok.ensures.looked.loan.shape in
    subst (λ (sh : Shape). LacksGoodNth sh R o c.args.start c.args.from c.in-Ok-told_next.nth) same
    (c.in-Ok-told_next.ensures.says R o e (c.in-Ok.ensures.looked.stays_true R t) at (is ∙ ap (λ (sh : Shape). l2_of sh (extents_of R o) c.args.start) (sym same)))

pub returns-in-Err-told_next-clause-looked : goal.returns-in-Err-told_next-clause-looked
returns-in-Err-told_next-clause-looked g c = refused_after g.D.Disk.meaning c.args.store.now c.fetch.new.self c.refuse.new.self c.in-Ok.field-0 c.refuse.result c.in-Ok.ensures.looked c.refuse.ensures.looked

pub returns-in-Err-told_next-clause-sound : goal.returns-in-Err-told_next-clause-sound
returns-in-Err-told_next-clause-sound g c = λ R o e t i at is l n. absurd (true≢false (sym (c.in-Err-told_next.ensures.right R o e (c.in-Ok.ensures.looked.stays_true R t) at (is ∙ ap (λ (sh : Shape). l2_of sh (extents_of R o) c.args.start) (sym c.in-Ok.ensures.looked.loan.shape)) l)))
