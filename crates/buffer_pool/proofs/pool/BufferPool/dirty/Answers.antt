use Rattle.std.proofs.Common.{arith, ◌∙◌}
use Rattle.seg_words.specs.Types.{TXN_TABLE_BLOCK}
use Rattle.buffer_pool.proofs.Installs.{count_front, dirty_count-le-length, weight_le}
use Rattle.buffer_pool.proofs.pool.BufferPool.dirty.Goals as goal

pub returns-clause-count : goal.returns-clause-count
returns-clause-count c = rw (← c.self.view_is) (c.self.invariant.0 ∙ count_front TXN_TABLE_BLOCK c.self.inside.first c.self.inside.frames.entries)

pub returns-clause-most : goal.returns-clause-most
returns-clause-most c = omega (arith, c.self.invariant.0, c.self.invariant.1, dirty_count-le-length c.self.inside.frames.entries, weight_le c.self.inside.first, c.len-count.ensures.valid.1)

pub returns-clause-only : goal.returns-clause-only
returns-clause-only c = rw (← c.self.view_is) c.self.invariant.3
