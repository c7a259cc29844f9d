use Rattle.std.proofs.Common.{◌≡◌, sym, subst}
use Rattle.std.specs.Prelude.{IfOk}
use Rattle.change_laws.specs.Types.{blocks_at, first_lacking}
use Rattle.row_change.specs.Lacking.{names_at}
use Rattle.row_change.specs.Standing.{AreAtHome, told_stand}
use Rattle.row_change.specs.declared.stand.Stand.{Stand}
use Rattle.row_change.proofs.Listed.{lack_alone}
use Rattle.row_change.proofs.lacking.lack_of.Goals as goal

pub returns-in-Whole-clause-says : goal.returns-in-Whole-clause-says
returns-in-Whole-clause-says g c = λ R o who own t a x.
    let b = subst (λ (z : Stand). AreAtHome c.args.store.now.shape R o (told_stand z)) c.in-Whole.is x in
    subst (λ (z : Stand). IfOk c.lack_at.result (λ y. y ≡ names_at R (first_lacking R own (blocks_at (told_stand z))))) (sym c.in-Whole.is) (lack_alone R own c.in-Whole.at.dba c.lack_at.result (c.lack_at.ensures.says R o who own t a b))

pub returns-in-Whole-clause-sound : goal.returns-in-Whole-clause-sound
returns-in-Whole-clause-sound g c = λ R o who own t a x n. c.lack_at.ensures.sound R o who own t a (subst (λ (z : Stand). AreAtHome c.args.store.now.shape R o (told_stand z)) c.in-Whole.is x) n

pub returns-in-Apart-clause-says : goal.returns-in-Apart-clause-says
returns-in-Apart-clause-says g c = λ R o who own t a x.
    let b = subst (λ (z : Stand). AreAtHome c.args.store.now.shape R o (told_stand z)) c.in-Apart.is x in
    subst (λ (z : Stand). IfOk c.lack_of_both.result (λ y. y ≡ names_at R (first_lacking R own (blocks_at (told_stand z))))) (sym c.in-Apart.is) (c.lack_of_both.ensures.says R o who own t a b.0 b.1)

pub returns-in-Apart-clause-sound : goal.returns-in-Apart-clause-sound
returns-in-Apart-clause-sound g c = λ R o who own t a x n. (let b = subst (λ (z : Stand). AreAtHome c.args.store.now.shape R o (told_stand z)) c.in-Apart.is x in c.lack_of_both.ensures.sound R o who own t a b.0 b.1 n)
