use Rattle.std.proofs.Common.{arith, [], ◌∷◌, ◌∙◌}
use Rattle.std.proofs.lemmas.Grind.{common_steps}
use Rattle.seg_words.specs.Types.{TXN_TABLE_BLOCK}
use Rattle.buffer_pool.proofs.Installs.{unequal}
use Rattle.buffer_pool.proofs.Batched.{dirty_there, settled_absent, settled_behind, settled_pages}
use Rattle.buffer_pool.proofs.pool.BufferPool.settle.Goals as goal

pub clean-requires : goal.clean-requires
clean-requires c = dirty_there TXN_TABLE_BLOCK c.self.inside.first c.args.block c.self.inside.frames.entries (unequal c.args.block TXN_TABLE_BLOCK c.if-block-eq-TXN_TABLE_BLOCK.false) (rw (← c.self.view_is) at c.requires)

pub invariant_of-self : goal.invariant_of-self
invariant_of-self c =
    let n = TXN_TABLE_BLOCK in let f = c.self.inside.first in let a = c.self.inside.frames.entries in let b = c.clean.new.frames.entries in let k = c.args.block in
    let other = unequal k n c.if-block-eq-TXN_TABLE_BLOCK.false in (
      grind (arith, common_steps, c.clean.ensures.dirty, c.self.invariant.0),
      c.clean.ensures.cap ∙ c.self.invariant.1,
      settled_absent (k ∷ []) n a b c.clean.ensures.settled c.self.invariant.2,
      settled_pages c.self.inside.store (k ∷ []) ((n, f) ∷ a) ((n, f) ∷ b) (settled_behind n f k a b other c.clean.ensures.settled) c.self.invariant.3,
    )

pub returns-clause-settled : goal.returns-clause-settled
returns-clause-settled c =
    let n = TXN_TABLE_BLOCK in let k = c.args.block in
    rw (← c.self.view_is) (settled_behind n c.self.inside.first k c.self.inside.frames.entries c.clean.new.frames.entries (unequal k n c.if-block-eq-TXN_TABLE_BLOCK.false) c.clean.ensures.settled)

pub returns-then-block-eq-TXN_TABLE_BLOCK-clause-settled : goal.returns-then-block-eq-TXN_TABLE_BLOCK-clause-settled
returns-then-block-eq-TXN_TABLE_BLOCK-clause-settled c = rw c.if-block-eq-TXN_TABLE_BLOCK.true c.settle_first.ensures.settled
