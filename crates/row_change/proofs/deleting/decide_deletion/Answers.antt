use Rattle.std.proofs.Common.{refl, sym, subst}
use Rattle.std.specs.Prelude.{IfOk}
use Rattle.seg_words.specs.Types.{Shape}
use Rattle.change_laws.specs.Types.{by_spot, change_size, delete_of, spot_for}
use Rattle.store_core.proofs.Lookups.{looked_on, looked_err}
use Rattle.row_change.specs.Deciding.{DecisionMeans}
use Rattle.row_change.specs.Planning.{CanBeMade}
use Rattle.row_change.specs.Standing.{told_stand}
use Rattle.row_change.proofs.deleting.decide_deletion.Goals as goal

pub returns-in-Err-clause-looked : goal.returns-in-Err-clause-looked
returns-in-Err-clause-looked g c = looked_err g.D.Disk.meaning c.args.store.now c.all_emptied.new.store c.in-Err.fault c.in-Err.ensures.looked

pub returns-in-Err-clause-sound : goal.returns-in-Err-clause-sound
returns-in-Err-clause-sound g c = λ R who own t a i x n. c.in-Err.ensures.sound R c.args.obj who own t a x n

pub returns-clause-looked : goal.returns-clause-looked
returns-clause-looked g c = looked_on g.D.Disk.meaning c.args.store.now c.all_emptied.new.store c.decide.new.store c.in-Ok.fills c.decide.result c.in-Ok.ensures.looked c.decide.ensures.looked

pub returns-clause-says : goal.returns-clause-says
returns-clause-says g c = λ R who own t m a x can.
    let k = delete_of c.args.obj c.args.row (told_stand c.args.stand.now) in
    let same = c.in-Ok.ensures.looked.loan.shape in
    subst (λ (s : Shape). IfOk c.decide.result (DecisionMeans s R who own (by_spot k (spot_for s R (change_size R k))))) same
    (c.decide.ensures.says R who own k (c.in-Ok.ensures.looked.stays_true R t) m a (record { kind = refl; obj = refl; row = refl; fills = c.in-Ok.ensures.says R c.args.obj who own t a x }) (subst (λ (s : Shape). CanBeMade s R own k) (sym same) can))

pub returns-clause-sound : goal.returns-clause-sound
returns-clause-sound g c = λ R who own t a i x n. c.decide.ensures.sound R c.args.obj who own (c.in-Ok.ensures.looked.stays_true R t) a i
