use Rattle.std.proofs.Common.{rules}
use Rattle.pool_store.proofs.Fetching.{lent}
use Rattle.pool_store.proofs.store.Store.frame.Goals as goal

pub returns : goal.returns
returns g c = λ R t. lent g.D.Disk.meaning R c.args.self.now c.self.inside.pages c.args.dba c.frame.result.now (search rules) c.requires.unspent c.frame.ensures t
