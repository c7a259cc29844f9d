use Rattle.std.proofs.Common.{Some, ◌∙◌, sym}
use Rattle.store_core.proofs.Lookups.{looked_same}
use Rattle.space_usage.proofs.Fixes.{fixed_bad, value_code}
use Rattle.space_usage.proofs.Stored.{tried_looked}
use Rattle.space_usage.proofs.fixing.keep_value.Goals as goal

pub returns-in-Some-clause-fixes : goal.returns-in-Some-clause-fixes
returns-in-Some-clause-fixes g c = λ R o h is.
    let e = sym c.class_of_value.ensures ∙ c.in-Some.is in
    c.keep_as.ensures.fixes R o (Some c.args.value) h is (value_code c.args.value c.in-Some.class e) e

pub returns-in-None-clause-fixes : goal.returns-in-None-clause-fixes
returns-in-None-clause-fixes g c = λ R o h is. fixed_bad g.D.Disk.meaning R o c.args.dba c.args.value c.args.store.now h (sym c.class_of_value.ensures ∙ c.in-None.is)

pub returns-in-None-clause-tried : goal.returns-in-None-clause-tried
returns-in-None-clause-tried g c = tried_looked {A = Unit {0}} g.D.Disk.meaning c.args.store.now c.args.store.now tt tt (looked_same {T = Unit {0}} g.D.Disk.meaning c.args.store.now tt c.requires)
