use Rattle.std.proofs.Common.{refl, sym, subst}
use Rattle.std.specs.Prelude.{IfOk}
use Rattle.seg_words.specs.Types.{Shape}
use Rattle.change_laws.specs.Types.{by_spot, change_size, holder_of, spot_for, update_of}
use Rattle.store_core.proofs.Lookups.{looked_on, looked_err}
use Rattle.row_change.specs.Deciding.{DecisionMeans}
use Rattle.row_change.specs.Planning.{CanBeMade}
use Rattle.row_change.specs.Standing.{told_stand}
use Rattle.row_change.proofs.Moved.{holder_home, in_place}
use Rattle.row_change.proofs.updating.decide_in_place.Goals as goal

pub returns-in-Err-clause-looked : goal.returns-in-Err-clause-looked
returns-in-Err-clause-looked g c = looked_err g.D.Disk.meaning c.args.store.now c.rewritten.new.store c.in-Err.fault c.in-Err.ensures.looked

pub returns-clause-looked : goal.returns-clause-looked
returns-clause-looked g c = looked_on g.D.Disk.meaning c.args.store.now c.rewritten.new.store c.decide.new.store c.in-Ok.fill c.decide.result c.in-Ok.ensures.looked c.decide.ensures.looked

pub returns-in-Err-clause-sound : goal.returns-in-Err-clause-sound
returns-in-Err-clause-sound g c = λ R who own t a i. c.in-Err.ensures.sound R c.args.u.now.obj who own t a (holder_home c.args.store.now.shape R c.args.u.now.obj (told_stand c.args.u.now.stand) c.args.u.now.at i.home i.holder)

pub returns-clause-says : goal.returns-clause-says
returns-clause-says g c = λ R who own t m a i can.
    let x = told_stand c.args.u.now.stand in
    let k = update_of R c.args.u.now.obj c.args.u.now.row x c.args.u.now.bytes.now in
    let same = c.in-Ok.ensures.looked.loan.shape in
    let f = in_place R own c.in-Ok.fill c.args.u.now.at (holder_of x) c.args.u.now.front c.args.u.now.bytes.now i.holder i.front (c.in-Ok.ensures.says R c.args.u.now.obj who own t a (holder_home c.args.store.now.shape R c.args.u.now.obj x c.args.u.now.at i.home i.holder)) in
    subst (λ (s : Shape). IfOk c.decide.result (DecisionMeans s R who own (by_spot k (spot_for s R (change_size R k))))) same
    (c.decide.ensures.says R who own k (c.in-Ok.ensures.looked.stays_true R t) m a (record { kind = refl; obj = refl; row = refl; fills = (f, tt) }) (subst (λ (s : Shape). CanBeMade s R own k) (sym same) (can k refl)))

pub returns-clause-sound : goal.returns-clause-sound
returns-clause-sound g c = λ R who own t a i. c.decide.ensures.sound R c.args.u.now.obj who own (c.in-Ok.ensures.looked.stays_true R t) a i.table
