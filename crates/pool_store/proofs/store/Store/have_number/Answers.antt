use Rattle.std.proofs.Common.{arith, ap}
use Rattle.pool_store.specs.Store.{waits}
use Rattle.pool_store.proofs.Numbers.{few_of}
use Rattle.pool_store.proofs.store.Store.have_number.Goals as goal

pub returns : goal.returns
returns g c = λ R list unspent. few_of g.D.Disk.meaning R c.args.self.now list unspent (omega (arith, c.end.ensures, c.end.type_inv, ap (λ s. s.log.end) c.self.view_is)) (omega (arith, c.unwritten.ensures, c.unwritten.type_inv, ap waits c.self.view_is))
