use Rattle.std.proofs.Common.{Some, sym, ap, ◌∙◌}
use Rattle.change_laws.specs.Types.{spot_by}
use Rattle.store_core.proofs.Lookups.{looked_on}
use Rattle.row_change.proofs.Found.{spot_ok, first_spot}
use Rattle.row_change.proofs.Searches.{current_ring}
use Rattle.row_change.proofs.Unused.{none_used}
use Rattle.row_change.proofs.spot.find_spot.Goals as goal

pub returns-in-None-clause-says : goal.returns-in-None-clause-says
returns-in-None-clause-says g c = λ R t k.
    let none = sym k.current ∙ sym c.in-None.ensures in
    spot_ok c.first_spot.result _ _ (first_spot c.args.store.now.shape R c.args.need none) (c.first_spot.ensures.says R (none_used R 37 none))

pub returns-in-None-clause-sound : goal.returns-in-None-clause-sound
returns-in-None-clause-sound g c = λ R o t k i. c.first_spot.ensures.sound

pub returns-in-Err-clause-sound : goal.returns-in-Err-clause-sound
returns-in-Err-clause-sound g c = λ R o t k i. c.in-Err.ensures.sound R t k (current_ring c.args.store.now.shape R c.in-Some.current t.list.within t.lawful.allowed (sym k.current ∙ sym c.in-Some.ensures)) c.requires.unspent

pub returns-clause-looked : goal.returns-clause-looked
returns-clause-looked g c = looked_on g.D.Disk.meaning c.args.store.now c.undo_state.new.store c.spot_beside.new.store c.in-Ok.state c.spot_beside.result c.in-Ok.ensures.looked c.spot_beside.ensures.looked

pub returns-clause-says : goal.returns-clause-says
returns-clause-says g c = λ R t k.
    let current = sym k.current ∙ sym c.in-Some.ensures in
    let ring = current_ring c.args.store.now.shape R c.in-Some.current t.list.within t.lawful.allowed current in
    spot_ok c.spot_beside.result _ _ (ap (λ x. spot_by x R c.args.need (Some c.in-Some.current)) c.in-Ok.ensures.looked.loan.shape ∙ ap (spot_by c.args.store.now.shape R c.args.need) (sym current))
    (c.spot_beside.ensures.says R (c.in-Ok.ensures.looked.stays_true R t) k current (c.in-Ok.ensures.says R t k ring))

pub returns-clause-sound : goal.returns-clause-sound
returns-clause-sound g c = λ R o t k i.
    let current = sym k.current ∙ sym c.in-Some.ensures in
    let ring = current_ring c.args.store.now.shape R c.in-Some.current t.list.within t.lawful.allowed current in
    c.spot_beside.ensures.sound R o (c.in-Ok.ensures.looked.stays_true R t) k i current (c.in-Ok.ensures.says R t k ring)
