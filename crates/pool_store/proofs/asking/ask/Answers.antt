use Rattle.std.proofs.Common.{◌≡◌, Err, Some, sym, ◌∙◌, subst}
use Rattle.seg_words.specs.Types.{Shape}
use Rattle.page_set.specs.Folded.{page_of}
use Rattle.pool_store.proofs.Lookups.{looked_on, looked_err, none_some}
use Rattle.pool_store.proofs.asking.ask.Goals as goal

pub returns-in-Err-clause-sound : goal.returns-in-Err-clause-sound
returns-in-Err-clause-sound g c = λ R x t unspent has says. c.in-Err.ensures.sound R t unspent has

pub returns-in-Ok-Some-clause-says : goal.returns-in-Ok-Some-clause-says
returns-in-Ok-Some-clause-says g c = λ R t.
    let u = c.in-Ok.ensures.looked.stays_true R t in
    subst (λ (sh : Shape). g.Q.Question.reads c.args.question.now (page_of sh R c.args.at) ≡ Some c.in-Ok-Some.answer) c.in-Ok.ensures.looked.loan.shape (sym (c.in-Ok-Some.ensures R u) ∙ c.in-Ok-Some.field-0-is)

pub returns-in-Ok-None-clause-looked : goal.returns-in-Ok-None-clause-looked
returns-in-Ok-None-clause-looked g c = looked_on g.D.Disk.meaning c.args.store.now c.fetch.new.self c.refuse.new.self _ (Err c.refuse.result) c.in-Ok.ensures.looked (looked_err g.D.Disk.meaning c.fetch.new.self c.refuse.new.self c.refuse.result c.refuse.ensures.looked)

pub returns-in-Ok-None-clause-sound : goal.returns-in-Ok-None-clause-sound
returns-in-Ok-None-clause-sound g c = λ R x t unspent has says.
    let u = c.in-Ok.ensures.looked.stays_true R t in
    let here = subst (λ (sh : Shape). g.Q.Question.reads c.args.question.now (page_of sh R c.args.at) ≡ Some x) (sym c.in-Ok.ensures.looked.loan.shape) says in
    none_some x (g.Q.Question.reads c.args.question.now (page_of c.fetch.new.self.shape R c.args.at)) (sym (c.in-Ok-None.ensures R u) ∙ c.in-Ok-None.field-0-is) here
