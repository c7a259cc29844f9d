use Rattle.session_world.proofs.Beginning.{never_begun}
use Rattle.store_core.specs.declared.fault.StoreFault.TheVariants.{NoMemory}
use Rattle.std.proofs.Common.{None}
use Rattle.assm.proofs.Summed.{lacks_sum}
use Rattle.assm.proofs.generating.sum_store.Goals as goal

pub returns-in-Err-clause-ran : goal.returns-in-Err-clause-ran
returns-in-Err-clause-ran g c = λ R0 t none. lacks_sum g.D.Disk.meaning c.args.scripts.now R0 c.args.store.now c.args.store.now NoMemory (never_begun g.D.Disk.meaning c.args.scripts.now R0 c.args.store.now None t none)
