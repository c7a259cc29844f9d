use Rattle.std.proofs.Common.{◌≡◌, ℕ, List, Option, None, sym, subst}
use Rattle.std.specs.Prelude.{IfOk}
use Rattle.seg_words.specs.Types.{Shape}
use Rattle.change_laws.specs.Types.{blocks_at, by_lack, by_spot, change_size, delete_of, first_lacking, spot_for}
use Rattle.store_core.proofs.Lookups.{looked_on, looked_ok, looked_err}
use Rattle.row_change.specs.Deciding.{DecisionMeans}
use Rattle.row_change.specs.Lacking.{names_at}
use Rattle.row_change.specs.Planning.{CanBeMade}
use Rattle.row_change.specs.Standing.{AreAtHome, told_stand}
use Rattle.row_change.proofs.Decided.{taken}
use Rattle.row_change.proofs.Listed.{none_lacks}
use Rattle.row_change.proofs.deleting.decide_free.Goals as goal

pub returns-in-Ok-None-clause-looked : goal.returns-in-Ok-None-clause-looked
returns-in-Ok-None-clause-looked g c = looked_on g.D.Disk.meaning c.args.store.now c.lack_of.new.store c.decide_deletion.new.store c.in-Ok-None.field-0 c.decide_deletion.result c.in-Ok-None.ensures.looked c.decide_deletion.ensures.looked

pub returns-in-Ok-None-clause-says : goal.returns-in-Ok-None-clause-says
returns-in-Ok-None-clause-says g c = λ R who own t m a x can.
    let y = told_stand c.args.stand.now in
    let k = delete_of c.args.obj c.args.row y in
    let l = first_lacking R own (blocks_at y) in
    let none : l ≡ None = none_lacks R l (subst (λ (z : Option (List ℕ)). z ≡ names_at R l) c.in-Ok-None.field-0-is (c.in-Ok-None.ensures.says R c.args.obj who own t a x)) in
    let same = c.in-Ok-None.ensures.looked.loan.shape in
    subst (λ (z : Option ℕ). IfOk c.decide_deletion.result (DecisionMeans c.args.store.now.shape R who own (by_lack R z (by_spot k (spot_for c.args.store.now.shape R (change_size R k)))))) (sym none)
    (subst (λ (s : Shape). IfOk c.decide_deletion.result (DecisionMeans s R who own (by_spot k (spot_for s R (change_size R k))))) same
    (c.decide_deletion.ensures.says R who own (c.in-Ok-None.ensures.looked.stays_true R t) m a (subst (λ (s : Shape). AreAtHome s R c.args.obj y) (sym same) x) (subst (λ (s : Shape). CanBeMade s R own k) (sym same) (can none))))

pub returns-in-Ok-None-clause-sound : goal.returns-in-Ok-None-clause-sound
returns-in-Ok-None-clause-sound g c = λ R who own t a i x n. c.decide_deletion.ensures.sound R who own (c.in-Ok-None.ensures.looked.stays_true R t) a i (subst (λ (s : Shape). AreAtHome s R c.args.obj (told_stand c.args.stand.now)) (sym c.in-Ok-None.ensures.looked.loan.shape) x) (c.in-Ok-None.ensures.looked.cause.kept n)

pub returns-in-Ok-Some-clause-looked : goal.returns-in-Ok-Some-clause-looked
returns-in-Ok-Some-clause-looked g c = looked_ok g.D.Disk.meaning c.args.store.now c.lack_of.new.store c.in-Ok-Some.field-0 _ c.in-Ok-Some.ensures.looked

pub returns-in-Ok-Some-clause-says : goal.returns-in-Ok-Some-clause-says
returns-in-Ok-Some-clause-says g c = λ R who own t m a x can.
    let l = first_lacking R own (blocks_at (told_stand c.args.stand.now)) in
    taken R l _ c.in-Ok-Some.txns (subst (λ (z : Option (List ℕ)). z ≡ names_at R l) c.in-Ok-Some.field-0-is (c.in-Ok-Some.ensures.says R c.args.obj who own t a x))

pub returns-in-Err-clause-looked : goal.returns-in-Err-clause-looked
returns-in-Err-clause-looked g c = looked_err g.D.Disk.meaning c.args.store.now c.lack_of.new.store c.in-Err.fault c.in-Err.ensures.looked

pub returns-in-Err-clause-sound : goal.returns-in-Err-clause-sound
returns-in-Err-clause-sound g c = λ R who own t a i x n. c.in-Err.ensures.sound R c.args.obj who own t a x n
