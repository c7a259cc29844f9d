use Rattle.std.proofs.Common.{◌≡◌}
use Rattle.buffer_pool.proofs.tests.more_pages_than_frames_are_changed_dropped_and_read_again.Given as goal

abbrev pub invariant-loop-block : goal.invariant-loop-block
invariant-loop-block g l = l.pool.shape ≡ l.store
