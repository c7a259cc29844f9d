use Rattle.std.proofs.Common.{◌≡◌, ◌++◌}
use Rattle.buffer_pool.specs.Batches.{due_blocks}
use Rattle.buffer_pool.proofs.cache.add_due.Given as goal

abbrev pub invariant-loop-block : goal.invariant-loop-block
invariant-loop-block l = l.numbers.items ++ due_blocks l.upto l.block-iterator ≡ l.initial.numbers.items ++ due_blocks l.upto l.frames.entries
