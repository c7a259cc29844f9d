use Rattle.std.proofs.Common.{arith, [], ◌∷◌}
use Rattle.std.proofs.lemmas.Grind.{common_steps}
use Rattle.seg_words.specs.Types.{TXN_TABLE_BLOCK}
use Rattle.buffer_pool.proofs.Batched.{settled_front, settled_pages}
use Rattle.buffer_pool.proofs.pool.BufferPool.settle_first.Goals as goal

pub invariant_of-self : goal.invariant_of-self
invariant_of-self c =
    let f = c.self.inside.first in let es = c.self.inside.frames.entries in
    let dirty = rw (← c.self.view_is) at c.requires in (
      grind (arith, common_steps, c.self.invariant.0, dirty),
      c.self.invariant.1,
      c.self.invariant.2,
      settled_pages c.self.inside.store (TXN_TABLE_BLOCK ∷ []) ((TXN_TABLE_BLOCK, f) ∷ es) _ (settled_front TXN_TABLE_BLOCK f es) c.self.invariant.3,
    )

pub returns-clause-settled : goal.returns-clause-settled
returns-clause-settled c = rw (← c.self.view_is) (settled_front TXN_TABLE_BLOCK c.self.inside.first c.self.inside.frames.entries)
