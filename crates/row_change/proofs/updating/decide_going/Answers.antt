use Rattle.std.proofs.Common.{◌≡◌, ℕ, List, Option, None, length, sym, subst}
use Rattle.std.specs.Prelude.{IfOk}
use Rattle.seg_words.specs.Types.{Shape}
use Rattle.change_laws.specs.Types.{by_change, by_lack, first_lacking}
use Rattle.store_core.proofs.Lookups.{looked_on, looked_ok, looked_err}
use Rattle.row_change.specs.Deciding.{DecisionMeans}
use Rattle.row_change.specs.Fitting.{told_way}
use Rattle.row_change.specs.Lacking.{names_at}
use Rattle.row_change.specs.Standing.{told_stand}
use Rattle.row_change.specs.Updating.{IsUpdate, MayChange, blocks_for, change_now}
use Rattle.row_change.proofs.Decided.{taken}
use Rattle.row_change.proofs.Listed.{none_lacks}
use Rattle.row_change.proofs.updating.decide_going.Goals as goal

pub returns-in-Ok-None-clause-looked : goal.returns-in-Ok-None-clause-looked
returns-in-Ok-None-clause-looked g c = looked_on g.D.Disk.meaning c.args.store.now c.lack_for.new.store c.decide_by_way.new.store c.in-Ok-None.field-0 c.decide_by_way.result c.in-Ok-None.ensures.looked c.decide_by_way.ensures.looked

pub returns-in-Ok-None-clause-says : goal.returns-in-Ok-None-clause-says
returns-in-Ok-None-clause-says g c = λ R who own t m a i can.
    let w = told_way c.args.way.now in
    let l = first_lacking R own (blocks_for (told_stand c.args.u.now.stand) w) in
    let none : l ≡ None = none_lacks R l (subst (λ (z : Option (List ℕ)). z ≡ names_at R l) c.in-Ok-None.field-0-is (c.in-Ok-None.ensures.says R who own t a i)) in
    let same = c.in-Ok-None.ensures.looked.loan.shape in
    subst (λ (z : Option ℕ). IfOk c.decide_by_way.result (DecisionMeans c.args.store.now.shape R who own (by_lack R z (by_change c.args.store.now.shape R (length c.args.u.now.bytes.now) (change_now R c.args.u.now w))))) (sym none)
    (subst (λ (s : Shape). IfOk c.decide_by_way.result (DecisionMeans s R who own (by_change s R (length c.args.u.now.bytes.now) (change_now R c.args.u.now w)))) same
    (c.decide_by_way.ensures.says R who own (c.in-Ok-None.ensures.looked.stays_true R t) m a (subst (λ (s : Shape). IsUpdate s R own c.args.u.now) (sym same) i) (subst (λ (s : Shape). MayChange s R own c.args.u.now w) (sym same) (can none))))

pub returns-in-Ok-None-clause-sound : goal.returns-in-Ok-None-clause-sound
returns-in-Ok-None-clause-sound g c = λ R who own t a i n. c.decide_by_way.ensures.sound R who own (c.in-Ok-None.ensures.looked.stays_true R t) a (subst (λ (s : Shape). IsUpdate s R own c.args.u.now) (sym c.in-Ok-None.ensures.looked.loan.shape) i)

pub returns-in-Ok-Some-clause-looked : goal.returns-in-Ok-Some-clause-looked
returns-in-Ok-Some-clause-looked g c = looked_ok g.D.Disk.meaning c.args.store.now c.lack_for.new.store c.in-Ok-Some.field-0 _ c.in-Ok-Some.ensures.looked

pub returns-in-Ok-Some-clause-says : goal.returns-in-Ok-Some-clause-says
returns-in-Ok-Some-clause-says g c = λ R who own t m a i can.
    let l = first_lacking R own (blocks_for (told_stand c.args.u.now.stand) (told_way c.args.way.now)) in
    taken R l _ c.in-Ok-Some.txns (subst (λ (z : Option (List ℕ)). z ≡ names_at R l) c.in-Ok-Some.field-0-is (c.in-Ok-Some.ensures.says R who own t a i))

pub returns-in-Err-clause-looked : goal.returns-in-Err-clause-looked
returns-in-Err-clause-looked g c = looked_err g.D.Disk.meaning c.args.store.now c.lack_for.new.store c.in-Err.fault c.in-Err.ensures.looked

pub returns-in-Err-clause-sound : goal.returns-in-Err-clause-sound
returns-in-Err-clause-sound g c = λ R who own t a i n. c.in-Err.ensures.sound R who own t a i n
