use Rattle.std.proofs.Common.{subst, arith}
use Rattle.version_read.specs.Walking.{Goes, IsReady}
use Rattle.version_read.proofs.Answering.{given_now}
use Rattle.version_read.proofs.Stepping.{starts, on_way}
use Rattle.version_read.proofs.chain.walk.Goals as goal

pub loop-followed-init : goal.loop-followed-init
loop-followed-init g c = (c.in_default.ensures.looked, c.in_default.ensures.lent, λ sh R b k h t w. starts sh R b k c.args.s c.args.own c.args.ring c.most_parts-most.result c.args.from w c.most_parts-most.ensures)

pub returns-in-Err-step_down-clause-sound : goal.returns-in-Err-step_down-clause-sound
returns-in-Err-step_down-clause-sound g c =
    let i = c.loop-followed.invariant in
    λ sh R b k h t w. c.in-Err-step_down.ensures.sound sh R b k c.loop-followed.followed c.most_parts-most.result (g.met.P.UndoPages.kept sh R _ _ i.0 h) t (on_way sh R b k c.args.s c.args.own c.args.ring c.loop-followed.followed c.most_parts-most.result c.args.from c.loop-followed.at w (i.2 sh R b k h t w))

pub returns-in-Ok-Done-clause-lent : goal.returns-in-Ok-Done-clause-lent
returns-in-Ok-Done-clause-lent g c = subst (IsReady (λ u. g.P.UndoPages.lends u c.step_down.new.pages)) c.in-Ok-Done.field-0-is c.in-Ok-Done.ensures.lent

pub returns-in-Ok-Done-clause-finds : goal.returns-in-Ok-Done-clause-finds
returns-in-Ok-Done-clause-finds g c =
    let i = c.loop-followed.invariant in
    λ sh R b k h t w. subst (Goes sh R b k c.args.s c.args.own c.loop-followed.followed c.most_parts-most.result) c.in-Ok-Done.field-0-is
    (c.in-Ok-Done.ensures.goes sh R b k c.loop-followed.followed c.most_parts-most.result (g.met.P.UndoPages.kept sh R _ _ i.0 h) t (on_way sh R b k c.args.s c.args.own c.args.ring c.loop-followed.followed c.most_parts-most.result c.args.from c.loop-followed.at w (i.2 sh R b k h t w)))

pub returns-in-Ok-Done-clause-now : goal.returns-in-Ok-Done-clause-now
returns-in-Ok-Done-clause-now g c =
    let i = c.loop-followed.invariant in
    λ sh R b k h t w l. given_now sh R b k c.args.s c.args.own c.in-Ok-Done.seen w.reader l (subst (Goes sh R b k c.args.s c.args.own c.loop-followed.followed c.most_parts-most.result) c.in-Ok-Done.field-0-is
    (c.in-Ok-Done.ensures.goes sh R b k c.loop-followed.followed c.most_parts-most.result (g.met.P.UndoPages.kept sh R _ _ i.0 h) t (on_way sh R b k c.args.s c.args.own c.args.ring c.loop-followed.followed c.most_parts-most.result c.args.from c.loop-followed.at w (i.2 sh R b k h t w))))

pub loop-followed-preserved : goal.loop-followed-preserved
loop-followed-preserved g c =
    let i = c.loop-followed.invariant in (
      g.met.P.UndoPages.looked_on _ _ _ i.0 c.in-Ok-Below.ensures.looked,
      subst (IsReady (λ u. g.P.UndoPages.lends u c.step_down.new.pages)) c.in-Ok-Below.field-0-is c.in-Ok-Below.ensures.lent,
      λ sh R b k h t w. subst (Goes sh R b k c.args.s c.args.own c.loop-followed.followed c.most_parts-most.result) c.in-Ok-Below.field-0-is
          (c.in-Ok-Below.ensures.goes sh R b k c.loop-followed.followed c.most_parts-most.result (g.met.P.UndoPages.kept sh R _ _ i.0 h) t (on_way sh R b k c.args.s c.args.own c.args.ring c.loop-followed.followed c.most_parts-most.result c.args.from c.loop-followed.at w (i.2 sh R b k h t w))),
    )

-- after the loop more parts would have been followed than there are
pub returns-clause-sound : goal.returns-clause-sound
returns-clause-sound g c = λ sh R b k h t w. absurd (let l = (c.loop-followed.invariant.2 sh R b k h t w).few in let m = c.loop-followed-test.false in omega (arith, l, m))
