use Rattle.std.proofs.Common.{refl, sym, ap, subst}
use Rattle.std.specs.Prelude.{IfOk}
use Rattle.seg_words.specs.Types.{Shape}
use Rattle.change_laws.specs.Types.{MayBeTarget, by_change, by_spot, change_size, change_to_block, migrate_of, spot_for}
use Rattle.store_core.proofs.Lookups.{looked_on, looked_err}
use Rattle.row_change.specs.Deciding.{DecisionMeans}
use Rattle.row_change.specs.Planning.{CanBeMade}
use Rattle.std.proofs.Common.{ℕ, Option, length}
use Rattle.row_change.specs.Standing.{told_stand}
use Rattle.row_change.proofs.updating.decide_migration.Goals as goal

pub returns-in-Err-clause-looked : goal.returns-in-Err-clause-looked
returns-in-Err-clause-looked g c = looked_err g.D.Disk.meaning c.args.store.now c.migrated.new.store c.in-Err.fault c.in-Err.ensures.looked

pub returns-clause-looked : goal.returns-clause-looked
returns-clause-looked g c = looked_on g.D.Disk.meaning c.args.store.now c.migrated.new.store c.decide.new.store c.in-Ok.fills c.decide.result c.in-Ok.ensures.looked c.decide.ensures.looked

pub returns-in-Err-clause-sound : goal.returns-in-Err-clause-sound
returns-in-Err-clause-sound g c = λ R who own t a i e. c.in-Err.ensures.sound R c.args.u.now.obj who own t a i.home (subst (MayBeTarget c.args.store.now.shape R own c.args.u.now.obj (told_stand c.args.u.now.stand) (length c.args.u.now.bytes.now)) e i.target).here

pub returns-clause-says : goal.returns-clause-says
returns-clause-says g c = λ R who own t m a i e can.
    let k = migrate_of R c.args.u.now.obj c.args.u.now.row (told_stand c.args.u.now.stand) c.args.to c.args.u.now.bytes.now in
    let there = (subst (MayBeTarget c.args.store.now.shape R own c.args.u.now.obj (told_stand c.args.u.now.stand) (length c.args.u.now.bytes.now)) e i.target).here in
    let same = c.in-Ok.ensures.looked.loan.shape in
    subst (λ (y : Option ℕ). IfOk c.decide.result (DecisionMeans c.args.store.now.shape R who own (by_change c.args.store.now.shape R (length c.args.u.now.bytes.now) (change_to_block R c.args.u.now.obj c.args.u.now.row (told_stand c.args.u.now.stand) c.args.u.now.bytes.now y)))) (sym e)
    (subst (λ (s : Shape). IfOk c.decide.result (DecisionMeans s R who own (by_spot k (spot_for s R (change_size R k))))) same
    (c.decide.ensures.says R who own k (c.in-Ok.ensures.looked.stays_true R t) m a (record { kind = refl; obj = refl; row = refl; fills = c.in-Ok.ensures.says R c.args.u.now.obj who own t a i.home there })
    (subst (λ (s : Shape). CanBeMade s R own k) (sym same) (can k (ap (λ (y : Option ℕ). change_to_block R c.args.u.now.obj c.args.u.now.row (told_stand c.args.u.now.stand) c.args.u.now.bytes.now y) e)))))

pub returns-clause-sound : goal.returns-clause-sound
returns-clause-sound g c = λ R who own t a i e. c.decide.ensures.sound R c.args.u.now.obj who own (c.in-Ok.ensures.looked.stays_true R t) a i.table
