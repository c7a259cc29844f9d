use Rattle.std.proofs.Common.{arith}
use Rattle.disk_model.proofs.Kept.{so_far_later}
use Rattle.disk_model.proofs.memory.Memory.fail.Goals as goal

pub invariant_of-self-clause-so_far : goal.invariant_of-self-clause-so_far
invariant_of-self-clause-so_far c = so_far_later c.args.self.now.clock c.saturating_add-self.result c.args.self.now.changes.items (omega arith) c.args.self.now.so_far
