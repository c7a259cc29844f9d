use Rattle.buffer_pool.proofs.Scans.{Scanned}
use Rattle.buffer_pool.proofs.cache.oldest_clean.Given as goal

abbrev pub invariant-loop-block : goal.invariant-loop-block
invariant-loop-block l = Scanned l.frames.entries l.block-iterator.iter
