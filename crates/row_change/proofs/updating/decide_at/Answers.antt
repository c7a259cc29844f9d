use Rattle.std.proofs.Common.{sym, subst}
use Rattle.std.specs.Prelude.{IfOk}
use Rattle.seg_words.specs.Types.{Shape}
use Rattle.change_laws.specs.Types.{update_answer}
use Rattle.store_core.proofs.Lookups.{looked_on, looked_err}
use Rattle.row_change.specs.Deciding.{DecisionMeans}
use Rattle.row_change.specs.Updating.{IsUpdate, Updates}
use Rattle.row_change.proofs.updating.decide_at.Goals as goal

pub returns-in-Ok-clause-looked : goal.returns-in-Ok-clause-looked
returns-in-Ok-clause-looked g c = looked_on g.D.Disk.meaning c.args.store.now c.begin_change.new.store c.decide_free.new.store c.in-Ok.opening c.decide_free.result c.in-Ok.ensures.looked c.decide_free.ensures.looked

pub returns-in-Ok-clause-says : goal.returns-in-Ok-clause-says
returns-in-Ok-clause-says g c = λ R n p t m d.
    let same = c.in-Ok.ensures.looked.loan.shape in
    subst (λ (s : Shape). IfOk c.decide_free.result (DecisionMeans s R c.args.who c.args.own.now (update_answer s R c.args.own.now c.args.u.now.obj n p.at p.start c.args.u.now.bytes.now c.args.u.now.to))) same
    (c.decide_free.ensures.says R c.args.who n p (c.in-Ok.ensures.looked.stays_true R t) m (c.in-Ok.ensures.says R t m) (subst (λ (s : Shape). Updates s R c.args.own.now n p c.args.u.now) (sym same) d))

pub returns-in-Ok-clause-sound : goal.returns-in-Ok-clause-sound
returns-in-Ok-clause-sound g c = λ R t m i n. c.decide_free.ensures.sound R c.args.who (c.in-Ok.ensures.looked.stays_true R t) (c.in-Ok.ensures.says R t m) (subst (λ (s : Shape). IsUpdate s R c.args.own.now c.args.u.now) (sym c.in-Ok.ensures.looked.loan.shape) i) (c.in-Ok.ensures.looked.cause.kept n)

pub returns-in-Err-clause-looked : goal.returns-in-Err-clause-looked
returns-in-Err-clause-looked g c = looked_err g.D.Disk.meaning c.args.store.now c.begin_change.new.store c.in-Err.fault c.in-Err.ensures.looked

pub returns-in-Err-clause-sound : goal.returns-in-Err-clause-sound
returns-in-Err-clause-sound g c = λ R t m i n. c.in-Err.ensures.sound R c.args.u.now.obj t i.table m n
