use Rattle.pool_store.proofs.KeptBad.{refused_at}
use Rattle.pool_store.proofs.store.Store.keep_bad.Goals as goal

pub returns-clause-looked : goal.returns-clause-looked
returns-clause-looked g c = refused_at g.D.Disk.meaning c.args.self.now c.keep.new.self c.args.dba c.requires c.keep.ensures
