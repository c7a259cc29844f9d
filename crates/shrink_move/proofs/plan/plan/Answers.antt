use Rattle.std.proofs.Common.{ℕ, Ok, Err, sym, ap, ◌∙◌, subst}
use Rattle.seg_words.specs.Types.{Shape}
use Rattle.change_laws.specs.Types.{spot_for}
use Rattle.row_change.specs.declared.spot.Spot.{Spot}
use Rattle.store_core.proofs.Lookups.{looked_on, looked_ok, looked_err, looked_memory}
use Rattle.shrink_move.specs.Drafting.{PlanMeans, fill_list}
use Rattle.shrink_move.proofs.Drafted.{plan_means, size_same}
use Rattle.shrink_move.proofs.plan.plan.Goals as goal

pub returns-in-Err-clause-looked : goal.returns-in-Err-clause-looked
returns-in-Err-clause-looked g c = looked_err {A = ℕ} g.D.Disk.meaning c.args.store.now c.next_commit.new.store c.in-Err.fault c.in-Err.ensures.looked

pub returns-in-Err-clause-sound : goal.returns-in-Err-clause-sound
returns-in-Err-clause-sound g c = λ R o k. c.in-Err.ensures.sound R o k.holds k.table

pub returns-in-Err-find_spot-clause-looked : goal.returns-in-Err-find_spot-clause-looked
returns-in-Err-find_spot-clause-looked g c = looked_on g.D.Disk.meaning c.args.store.now c.next_commit.new.store c.find_spot.new.store c.in-Ok.number (Err c.in-Err-find_spot.fault) c.in-Ok.ensures.looked (looked_err {A = Spot} g.D.Disk.meaning c.next_commit.new.store c.find_spot.new.store c.in-Err-find_spot.fault c.in-Err-find_spot.ensures.looked)

pub returns-in-Err-find_spot-clause-sound : goal.returns-in-Err-find_spot-clause-sound
returns-in-Err-find_spot-clause-sound g c = λ R o k. c.in-Err-find_spot.ensures.sound R o (c.in-Ok.ensures.looked.stays_true R k.holds) k.holds_table k.table

pub returns-in-Ok-plan_at-clause-looked : goal.returns-in-Ok-plan_at-clause-looked
returns-in-Ok-plan_at-clause-looked g c = looked_ok g.D.Disk.meaning c.args.store.now c.find_spot.new.store c.in-Ok-find_spot.spot c.in-Ok-plan_at.planned (looked_on g.D.Disk.meaning c.args.store.now c.next_commit.new.store c.find_spot.new.store c.in-Ok.number (Ok c.in-Ok-find_spot.spot) c.in-Ok.ensures.looked c.in-Ok-find_spot.ensures.looked)

pub returns-in-Ok-plan_at-clause-says : goal.returns-in-Ok-plan_at-clause-says
returns-in-Ok-plan_at-clause-says g c = λ R o n gs k i l.
    let sh = c.args.ground.now.shape in
    let spot = c.in-Ok-find_spot.ensures.says R (c.in-Ok.ensures.looked.stays_true R k.holds) k.holds_table in
    subst (PlanMeans sh R c.args.obj n gs) (sym c.in-Ok-plan_at.ensures)
    (plan_means sh R c.args.obj n c.in-Ok.number c.args.moving gs c.in-Ok-find_spot.spot (c.in-Ok.ensures.says R k.holds) i l
    (spot ∙ ap (λ (z : Shape). spot_for z R c.size_of-need.result) (c.in-Ok.ensures.looked.loan.shape ∙ sym k.shape) ∙ ap (spot_for sh R) (c.size_of-need.ensures.value ∙ size_same R (fill_list c.args.moving.fills) gs i.fills)))

pub returns-in-Err-plan_at-clause-looked : goal.returns-in-Err-plan_at-clause-looked
returns-in-Err-plan_at-clause-looked g c = looked_memory g.D.Disk.meaning c.args.store.now c.find_spot.new.store c.in-Ok-find_spot.spot (looked_on g.D.Disk.meaning c.args.store.now c.next_commit.new.store c.find_spot.new.store c.in-Ok.number (Ok c.in-Ok-find_spot.spot) c.in-Ok.ensures.looked c.in-Ok-find_spot.ensures.looked)

pub find_spot-requires-clause-unspent : goal.find_spot-requires-clause-unspent
find_spot-requires-clause-unspent g c = c.in-Ok.ensures.looked.cause.kept c.in-Ok.ensures.looked.cause.goes_on
