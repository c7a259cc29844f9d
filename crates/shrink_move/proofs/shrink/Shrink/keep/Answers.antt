use Rattle.std.proofs.Common.{List, ap}
use Rattle.shrink_laws.specs.declared.skip.Skip.{Skip}
use Rattle.shrink_move.specs.Stepping.{shrink_with}
use Rattle.shrink_move.proofs.shrink.Shrink.keep.Goals as goal

pub returns-in-Ok-clause-ok : goal.returns-in-Ok-clause-ok
returns-in-Ok-clause-ok c = ap (λ (ss : List Skip). shrink_with c.args.self.now.obj c.args.place ss) c.in-Ok.ensures.ok

pub returns-in-Err-clause-err : goal.returns-in-Err-clause-err
returns-in-Err-clause-err c = ap (λ (ss : List Skip). shrink_with c.args.self.now.obj c.args.self.now.cursor ss) c.in-Err.ensures.err
