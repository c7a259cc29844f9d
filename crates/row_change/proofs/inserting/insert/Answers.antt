use Rattle.std.proofs.Common.{sym, subst}
use Rattle.seg_words.specs.Types.{Shape}
use Rattle.change_laws.specs.Types.{insert_answer, insert_of}
use Rattle.store_core.proofs.Lookups.{loan_on, cause_on, cause_err}
use Rattle.row_change.specs.Answering.{Answers, store_answer}
use Rattle.row_change.specs.Planning.{PlanMeans}
use Rattle.row_change.proofs.Made.{answers_on, looked_failed}
use Rattle.row_change.proofs.inserting.insert.Goals as goal

pub returns-in-Ok-clause-answers : goal.returns-in-Ok-clause-answers
returns-in-Ok-clause-answers g c = λ R t m i.
    let same = c.in-Ok.ensures.looked.loan.shape in
    let k = insert_of R c.args.obj c.args.at c.args.bytes.now in
    answers_on g.D.Disk.meaning c.args.store.now c.plan_insert.new.store c.make.new.store R c.args.who c.args.own c.in-Ok.planned _ c.make.result t c.in-Ok.ensures.looked
    (subst (λ (s : Shape). Answers g.D.Disk.meaning R c.args.who c.args.own (insert_answer s R c.args.obj c.args.at c.args.bytes.now) c.plan_insert.new.store c.make.new.store c.make.result) same
    (c.make.ensures.answers R c.args.who c.args.own k (c.in-Ok.ensures.looked.stays_true R t) (subst (λ (s : Shape). PlanMeans s R c.args.who c.args.own k c.in-Ok.planned) (sym same) (c.in-Ok.ensures.says R t m i))))

pub returns-in-Ok-clause-loan : goal.returns-in-Ok-clause-loan
returns-in-Ok-clause-loan g c = loan_on g.D.Disk.meaning c.args.store.now c.plan_insert.new.store c.make.new.store c.in-Ok.ensures.looked.list c.in-Ok.ensures.looked.loan c.make.ensures.loan

pub returns-in-Ok-clause-cause : goal.returns-in-Ok-clause-cause
returns-in-Ok-clause-cause g c = cause_on g.D.Disk.meaning c.args.store.now c.plan_insert.new.store c.make.new.store c.in-Ok.planned (store_answer c.make.result) c.in-Ok.ensures.looked.loan c.in-Ok.ensures.looked.cause c.make.ensures.cause

pub returns-in-Err-clause-answers : goal.returns-in-Err-clause-answers
returns-in-Err-clause-answers g c = λ R t m i. looked_failed g.D.Disk.meaning c.args.store.now c.plan_insert.new.store R c.args.who c.args.own _ c.in-Err.fault t c.in-Err.ensures.looked (λ n. c.in-Err.ensures.sound R t m i n)

pub returns-in-Err-clause-cause : goal.returns-in-Err-clause-cause
returns-in-Err-clause-cause g c = cause_err g.D.Disk.meaning c.args.store.now c.plan_insert.new.store c.in-Err.fault c.in-Err.ensures.looked.cause
