use Rattle.std.proofs.Common.{sym, ◌∙◌, subst}
use Rattle.seg_words.specs.Types.{Shape}
use Rattle.store_core.proofs.Additions.{tried_on, tried_none}
use Rattle.shrink_move.specs.Drafting.{PlanMeans}
use Rattle.shrink_move.specs.Starts.{store_part}
use Rattle.shrink_move.proofs.Carried.{look_failed, moved_in, moved_on}
use Rattle.shrink_move.proofs.stepping.carry_out.Goals as goal

pub returns-in-Ok-clause-moves : goal.returns-in-Ok-clause-moves
returns-in-Ok-clause-moves g c = λ R o n gs k i l.
    let M = g.D.Disk.meaning in
    let a = c.args.store.now in
    let b = c.plan.new.store in
    let e = c.make.new.store in
    let sh = c.args.ground.now.shape in
    let same = c.in-Ok.ensures.looked.loan.shape ∙ sym k.shape in
    moved_on M sh R c.args.obj n gs a b e c.in-Ok.planned c.make.result k.holds c.in-Ok.ensures.looked
    (moved_in M sh b.shape R c.args.obj n gs b e c.make.result same
    (c.make.ensures.moves R c.args.obj n gs (c.in-Ok.ensures.looked.stays_true R k.holds) (subst (λ (z : Shape). PlanMeans z R c.args.obj n gs c.in-Ok.planned) (sym same) (c.in-Ok.ensures.says R o n gs k i l))))

pub returns-in-Ok-clause-tried : goal.returns-in-Ok-clause-tried
returns-in-Ok-clause-tried g c = tried_on g.D.Disk.meaning c.args.store.now c.plan.new.store c.make.new.store c.in-Ok.planned (store_part c.make.result) c.in-Ok.ensures.looked c.make.ensures.tried

pub returns-in-Err-clause-moves : goal.returns-in-Err-clause-moves
returns-in-Err-clause-moves g c = λ R o n gs k i l. look_failed g.D.Disk.meaning R c.args.store.now c.plan.new.store c.in-Err.fault k.holds c.in-Err.ensures.looked (λ u. c.in-Err.ensures.sound R o k)

pub returns-in-Err-clause-tried : goal.returns-in-Err-clause-tried
returns-in-Err-clause-tried g c = tried_none g.D.Disk.meaning c.args.store.now c.plan.new.store c.in-Err.fault c.in-Err.ensures.looked

pub make-requires : goal.make-requires
make-requires g c = record { unspent = c.in-Ok.ensures.looked.cause.kept c.in-Ok.ensures.looked.cause.goes_on }
