use Rattle.std.proofs.Common.{sym, subst}
use Rattle.seg_words.specs.Types.{Shape}
use Rattle.change_laws.specs.Types.{update_answer}
use Rattle.store_core.proofs.Lookups.{loan_on, cause_on, cause_err}
use Rattle.row_change.specs.Answering.{store_answer}
use Rattle.row_change.specs.Deciding.{DecisionMeans}
use Rattle.row_change.proofs.Made.{answers_on, looked_failed}
use Rattle.row_change.proofs.updating.update.Goals as goal

pub returns-in-Ok-clause-answers : goal.returns-in-Ok-clause-answers
returns-in-Ok-clause-answers g c = λ R n t m f z b.
    let same = c.in-Ok.ensures.looked.loan.shape in
    let a = update_answer c.args.store.now.shape R c.args.own c.args.obj n c.args.place.now.at c.args.place.now.start c.args.bytes.now c.args.to in
    answers_on g.D.Disk.meaning c.args.store.now c.decide_update.new.store c.carry_out.new.store R c.args.who c.args.own c.in-Ok.decision a c.carry_out.result t c.in-Ok.ensures.looked
    (c.carry_out.ensures.answers R c.args.who c.args.own a (c.in-Ok.ensures.looked.stays_true R t) (subst (λ (s : Shape). DecisionMeans s R c.args.who c.args.own a c.in-Ok.decision) (sym same) (c.in-Ok.ensures.says R n t m f z b)))

pub returns-in-Ok-clause-loan : goal.returns-in-Ok-clause-loan
returns-in-Ok-clause-loan g c = loan_on g.D.Disk.meaning c.args.store.now c.decide_update.new.store c.carry_out.new.store c.in-Ok.ensures.looked.list c.in-Ok.ensures.looked.loan c.carry_out.ensures.loan

pub returns-in-Ok-clause-cause : goal.returns-in-Ok-clause-cause
returns-in-Ok-clause-cause g c = cause_on g.D.Disk.meaning c.args.store.now c.decide_update.new.store c.carry_out.new.store c.in-Ok.decision (store_answer c.carry_out.result) c.in-Ok.ensures.looked.loan c.in-Ok.ensures.looked.cause c.carry_out.ensures.cause

pub returns-in-Err-clause-answers : goal.returns-in-Err-clause-answers
returns-in-Err-clause-answers g c = λ R n t m f z b. looked_failed g.D.Disk.meaning c.args.store.now c.decide_update.new.store R c.args.who c.args.own _ c.in-Err.fault t c.in-Err.ensures.looked (λ u. c.in-Err.ensures.sound R n t m f z b u)

pub returns-in-Err-clause-cause : goal.returns-in-Err-clause-cause
returns-in-Err-clause-cause g c = cause_err g.D.Disk.meaning c.args.store.now c.decide_update.new.store c.in-Err.fault c.in-Err.ensures.looked.cause
