use Rattle.std.proofs.Common.{refl, sym, ap, subst}
use Rattle.std.specs.Prelude.{IfOk}
use Rattle.seg_words.specs.Types.{Shape}
use Rattle.change_laws.specs.Types.{Stand, by_change, by_spot, change_size, change_to_head, return_of, spot_for}
use Rattle.store_core.proofs.Lookups.{looked_on, looked_err}
use Rattle.row_change.specs.Deciding.{DecisionMeans}
use Rattle.row_change.specs.Planning.{CanBeMade}
use Rattle.std.proofs.Common.{length}
use Rattle.row_change.specs.Standing.{AreAtHome}
use Rattle.row_change.proofs.updating.decide_return.Goals as goal

pub returns-in-Err-clause-looked : goal.returns-in-Err-clause-looked
returns-in-Err-clause-looked g c = looked_err g.D.Disk.meaning c.args.store.now c.returned.new.store c.in-Err.fault c.in-Err.ensures.looked

pub returns-clause-looked : goal.returns-clause-looked
returns-clause-looked g c = looked_on g.D.Disk.meaning c.args.store.now c.returned.new.store c.decide.new.store c.in-Ok.fills c.decide.result c.in-Ok.ensures.looked c.decide.ensures.looked

pub returns-in-Err-clause-sound : goal.returns-in-Err-clause-sound
returns-in-Err-clause-sound g c = λ R who own t a i e. (let b = subst (AreAtHome c.args.store.now.shape R c.args.u.now.obj) e i.home in c.in-Err.ensures.sound R c.args.u.now.obj who own t a b.0 b.1)

pub returns-clause-says : goal.returns-clause-says
returns-clause-says g c = λ R who own t m a i e can.
    let k = return_of c.args.u.now.obj c.args.u.now.row c.args.head.now c.args.body.now c.args.u.now.bytes.now in
    let b = subst (AreAtHome c.args.store.now.shape R c.args.u.now.obj) e i.home in
    let same = c.in-Ok.ensures.looked.loan.shape in
    subst (λ (y : Stand). IfOk c.decide.result (DecisionMeans c.args.store.now.shape R who own (by_change c.args.store.now.shape R (length c.args.u.now.bytes.now) (change_to_head c.args.u.now.obj c.args.u.now.row y c.args.u.now.bytes.now)))) (sym e)
    (subst (λ (s : Shape). IfOk c.decide.result (DecisionMeans s R who own (by_spot k (spot_for s R (change_size R k))))) same
    (c.decide.ensures.says R who own k (c.in-Ok.ensures.looked.stays_true R t) m a (record { kind = refl; obj = refl; row = refl; fills = c.in-Ok.ensures.says R c.args.u.now.obj who own t a b.0 b.1 })
    (subst (λ (s : Shape). CanBeMade s R own k) (sym same) (can k (ap (λ (y : Stand). change_to_head c.args.u.now.obj c.args.u.now.row y c.args.u.now.bytes.now) e)))))

pub returns-clause-sound : goal.returns-clause-sound
returns-clause-sound g c = λ R who own t a i e. c.decide.ensures.sound R c.args.u.now.obj who own (c.in-Ok.ensures.looked.stays_true R t) a i.table
