use Rattle.std.proofs.Common.{sym, ◌∙◌}
use Rattle.session_step.proofs.Starting.{back_at, back_goes_on, back_starts, may_roll}
use Rattle.session_step.proofs.acting.roll.Goals as goal

pub returns-in-Some-clause-acted : goal.returns-in-Some-clause-acted
returns-in-Some-clause-acted g c = λ x st who labels p k closing t.
    let M = g.D.Disk.meaning in
    let b = back_goes_on M x who c.args.own labels p c.args.doing.now c.args.store.now st c.in-Some.txn k (sym c.backing_in.ensures ∙ c.in-Some.is) t in
    c.take_back.ensures.acted x st k (back_at M x c.args.own c.in-Some.txn c.args.store.now b t.at) b

pub returns-in-None-clause-acted : goal.returns-in-None-clause-acted
returns-in-None-clause-acted g c = λ x st who labels p k closing t.
    c.roll_back.ensures.acted x st (may_roll st c.args.own k closing) t.at
    (back_starts g.D.Disk.meaning x who c.args.own labels p c.args.doing.now c.args.store.now st k (sym c.backing_in.ensures ∙ c.in-None.is) t)
