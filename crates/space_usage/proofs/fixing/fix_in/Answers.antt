use Rattle.std.proofs.Common.{ℕ, Option, sym, subst}
use Rattle.space_usage.specs.Fixing.{IsFixed}
use Rattle.space_usage.proofs.fixing.fix_in.Goals as goal

pub returns-in-Some-clause-fixes : goal.returns-in-Some-clause-fixes
returns-in-Some-clause-fixes g c = λ R o h is. subst (λ (v : Option ℕ). IsFixed g.D.Disk.meaning c.args.store.now.shape R o c.args.dba v c.args.store.now c.keep_value.new.store c.keep_value.result) (sym c.in-Some.is) (c.keep_value.ensures.fixes R o h is)

pub returns-in-None-clause-fixes : goal.returns-in-None-clause-fixes
returns-in-None-clause-fixes g c = λ R o h is. subst (λ (v : Option ℕ). IsFixed g.D.Disk.meaning c.args.store.now.shape R o c.args.dba v c.args.store.now c.keep_own.new.store c.keep_own.result) (sym c.in-None.is) (c.keep_own.ensures.fixes R o h is)
