use Rattle.std.proofs.Common.{Bool}
use Rattle.store_core.proofs.Additions.{tried_ok, tried_err}
use Rattle.space_usage.specs.Keeping.{with_kept}
use Rattle.space_usage.proofs.Fixes.{fixed_kept, fixed_refused}
use Rattle.space_usage.proofs.fixing.keep_as.Goals as goal

pub returns-in-Ok-clause-fixes : goal.returns-in-Ok-clause-fixes
returns-in-Ok-clause-fixes g c = λ R o v h is l w. fixed_kept g.D.Disk.meaning R o c.args.dba v c.args.store.now c.keep.new.store c.args.class c.in-Ok.field-0 h w (c.in-Ok.ensures.keeps R o h is l)

pub returns-in-Ok-clause-tried : goal.returns-in-Ok-clause-tried
returns-in-Ok-clause-tried g c = tried_ok {A = Bool} g.D.Disk.meaning c.args.store.now c.keep.new.store c.in-Ok.field-0 tt c.in-Ok.ensures.tried

pub returns-in-Err-clause-fixes : goal.returns-in-Err-clause-fixes
returns-in-Err-clause-fixes g c = λ R o v h is l w. fixed_refused g.D.Disk.meaning R (with_kept c.args.store.now.shape R o c.args.dba c.args.class) o c.args.dba v c.args.store.now c.keep.new.store c.in-Err.fault (c.in-Err.ensures.keeps R o h is l)

pub returns-in-Err-clause-tried : goal.returns-in-Err-clause-tried
returns-in-Err-clause-tried g c = tried_err {A = Bool} g.D.Disk.meaning c.args.store.now c.keep.new.store c.in-Err.fault c.in-Err.ensures.tried
