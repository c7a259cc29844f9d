use Rattle.std.proofs.Common.{◌≡◌, length, sym, ap, ◌∙◌, subst}
use Rattle.std.specs.Prelude.{IfOk}
use Rattle.seg_words.specs.Types.{Shape}
use Rattle.change_laws.specs.Types.{Answer, by_change, by_lack, first_lacking, path_of}
use Rattle.store_core.proofs.Lookups.{looked_on, looked_err}
use Rattle.row_change.specs.Deciding.{DecisionMeans}
use Rattle.row_change.specs.Fitting.{told_way}
use Rattle.row_change.specs.Standing.{told_stand}
use Rattle.row_change.specs.Updating.{IsUpdate, MayChange, blocks_for, change_now}
use Rattle.row_change.proofs.Updated.{goes_so, may_so}
use Rattle.row_change.proofs.updating.decide_free.Goals as goal

pub returns-in-Ok-clause-looked : goal.returns-in-Ok-clause-looked
returns-in-Ok-clause-looked g c = looked_on g.D.Disk.meaning c.args.store.now c.way_of.new.store c.decide_going.new.store c.in-Ok.way c.decide_going.result c.in-Ok.ensures.looked c.decide_going.ensures.looked

pub returns-in-Ok-clause-says : goal.returns-in-Ok-clause-says
returns-in-Ok-clause-says g c = λ R who n p t m a d.
    let x = told_stand c.args.u.now.stand in
    let w = told_way c.in-Ok.way in
    let e : w ≡ path_of R c.args.own.now x (length c.args.u.now.bytes.now) = c.in-Ok.ensures.says R c.args.u.now.obj who t a d.is.home ∙ ap (path_of R c.args.own.now x) c.length_of-len.ensures in
    let same = c.in-Ok.ensures.looked.loan.shape in
    subst (λ (y : Answer). IfOk c.decide_going.result (DecisionMeans c.args.store.now.shape R who c.args.own.now y)) (goes_so c.args.store.now.shape R c.args.own.now c.args.u.now w e ∙ d.answer)
    (subst (λ (s : Shape). IfOk c.decide_going.result (DecisionMeans s R who c.args.own.now (by_lack R (first_lacking R c.args.own.now (blocks_for x w)) (by_change s R (length c.args.u.now.bytes.now) (change_now R c.args.u.now w))))) same
    (c.decide_going.ensures.says R who c.args.own.now (c.in-Ok.ensures.looked.stays_true R t) m a (subst (λ (s : Shape). IsUpdate s R c.args.own.now c.args.u.now) (sym same) d.is) (λ z. subst (λ (s : Shape). MayChange s R c.args.own.now c.args.u.now w) (sym same) (may_so c.args.store.now.shape R c.args.own.now n p c.args.u.now w e d z))))

pub returns-in-Ok-clause-sound : goal.returns-in-Ok-clause-sound
returns-in-Ok-clause-sound g c = λ R who t a i n. c.decide_going.ensures.sound R who c.args.own.now (c.in-Ok.ensures.looked.stays_true R t) a (subst (λ (s : Shape). IsUpdate s R c.args.own.now c.args.u.now) (sym c.in-Ok.ensures.looked.loan.shape) i) (c.in-Ok.ensures.looked.cause.kept n)

pub returns-in-Err-clause-looked : goal.returns-in-Err-clause-looked
returns-in-Err-clause-looked g c = looked_err g.D.Disk.meaning c.args.store.now c.way_of.new.store c.in-Err.fault c.in-Err.ensures.looked

pub returns-in-Err-clause-sound : goal.returns-in-Err-clause-sound
returns-in-Err-clause-sound g c = λ R who t a i n. c.in-Err.ensures.sound R c.args.u.now.obj who t a i.home i.there n
