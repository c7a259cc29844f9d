use Rattle.std.proofs.Common.{◌∷◌, Option, refl, sym, subst}
use Rattle.redo_model.specs.Records.{ReuseRecord}
use Rattle.redo_model.specs.Model.{IsLawful}
use Rattle.store_core.specs.Adding.{Adds}
use Rattle.row_change.specs.Adding.{reused}
use Rattle.row_change.proofs.adding.add_change.Goals as goal

pub returns-in-None-clause-makes : goal.returns-in-None-clause-makes
returns-in-None-clause-makes g c = λ R t l.
    subst (λ (q : Option ReuseRecord). Adds g.D.Disk.meaning R (c.args.change.now ∷ reused q R) c.args.store.now c.add_one.new.store c.add_one.result) (sym c.in-None.is)
    (c.add_one.ensures.makes R t (subst (λ (q : Option ReuseRecord). IsLawful c.args.store.now.shape (c.args.change.now ∷ reused q R)) c.in-None.is l))

pub returns-in-Some-clause-makes : goal.returns-in-Some-clause-makes
returns-in-Some-clause-makes g c = λ R t l.
    subst (λ (q : Option ReuseRecord). Adds g.D.Disk.meaning R (c.args.change.now ∷ reused q R) c.args.store.now c.add_two.new.store c.add_two.result) (sym c.in-Some.is)
    (c.add_two.ensures.makes R t (subst (λ (q : Option ReuseRecord). IsLawful c.args.store.now.shape (c.args.change.now ∷ reused q R)) c.in-Some.is l) refl)
