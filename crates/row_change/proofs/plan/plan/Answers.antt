use Rattle.std.proofs.Common.{sym, ap, ◌∙◌, subst}
use Rattle.change_laws.specs.Types.{spot_for}
use Rattle.store_core.proofs.Lookups.{looked_ok, looked_memory}
use Rattle.row_change.specs.Drafting.{fill_list}
use Rattle.row_change.specs.Planning.{PlanMeans}
use Rattle.row_change.proofs.Plans.{plan_means, size_same}
use Rattle.row_change.proofs.plan.plan.Goals as goal

pub returns-in-Err-clause-sound : goal.returns-in-Err-clause-sound
returns-in-Err-clause-sound g c = λ R o who own t a i. c.in-Err.ensures.sound R o t a.table i

pub returns-in-Ok-plan_at-clause-looked : goal.returns-in-Ok-plan_at-clause-looked
returns-in-Ok-plan_at-clause-looked g c = looked_ok g.D.Disk.meaning c.args.store.now c.find_spot.new.store c.in-Ok.spot c.in-Ok-plan_at.planned c.in-Ok.ensures.looked

pub returns-in-Ok-plan_at-clause-says : goal.returns-in-Ok-plan_at-clause-says
returns-in-Ok-plan_at-clause-says g c = λ R who own k t m a h can.
    subst (PlanMeans c.args.store.now.shape R who own k) (sym c.in-Ok-plan_at.ensures)
    (plan_means c.args.store.now.shape R who own k c.args.opening.now.actor c.args.change c.in-Ok.spot t.lawful m a.actor h can
    (c.in-Ok.ensures.says R t a.table ∙ ap (spot_for c.args.store.now.shape R) (c.size_of-need.ensures.value ∙ size_same R own (fill_list c.args.change.fills) k.fills h.fills)))

pub returns-in-Err-plan_at-clause-looked : goal.returns-in-Err-plan_at-clause-looked
returns-in-Err-plan_at-clause-looked g c = looked_memory g.D.Disk.meaning c.args.store.now c.find_spot.new.store c.in-Ok.spot c.in-Ok.ensures.looked
