use Rattle.std.proofs.Common.{◌≡◌, ◌+◌, length}
use Rattle.buffer_pool.specs.Batches.{AreDirtyUpTo}
use Rattle.store_pages.proofs.Loops.{SoFar}
use Rattle.store_pages.proofs.opening.redo_all.Given as goal

abbrev pub invariant-loop-i : goal.invariant-loop-i
invariant-loop-i g l = record {
  so : SoFar g.D.Disk.meaning l.fn.disk l.disk l.records l.fn.first l.i l.fn.pool l.pool;
  same : l.store ≡ l.fn.store;
  up : AreDirtyUpTo (l.fn.first + length l.records) l.fn.pool.held → AreDirtyUpTo (l.fn.first + length l.records) l.pool.held;
}
