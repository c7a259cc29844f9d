use Rattle.store_core.proofs.KeptBad.{refused_at}
use Rattle.store_core.proofs.store.Store.keep_bad.Goals as goal

pub returns : goal.returns
returns g c = refused_at g.D.Disk.meaning c.args.self.now c.keep.new.self c.args.dba c.requires c.keep.ensures
