use Rattle.std.proofs.Common.{arith, ◌∙◌}
use Rattle.std.proofs.lemmas.Grind.{common_steps}
use Rattle.seg_words.specs.Types.{TXN_TABLE_BLOCK}
use Rattle.buffer_pool.proofs.Drops.{keeps_behind, dirty_behind}
use Rattle.buffer_pool.proofs.Fetches.{pages_dropped}
use Rattle.buffer_pool.proofs.pool.BufferPool.reserve.Goals as goal

pub invariant_of-self : goal.invariant_of-self
invariant_of-self c =
    let a = c.self.inside.frames.entries in let b = c.make_room.new.frames.entries in (
      grind (arith, common_steps, c.make_room.ensures.dirty, c.self.invariant.0),
      c.make_room.ensures.cap ∙ c.self.invariant.1,
      c.make_room.ensures.absent TXN_TABLE_BLOCK c.self.invariant.2,
      pages_dropped c.self.inside.store TXN_TABLE_BLOCK c.self.inside.first a b c.make_room.ensures.absent c.self.invariant.3,
    )

pub returns-clause-keeps : goal.returns-clause-keeps
returns-clause-keeps c = λ pages. rw (← c.self.view_is) (keeps_behind pages TXN_TABLE_BLOCK c.self.inside.first c.self.inside.frames.entries c.make_room.new.frames.entries (c.make_room.ensures.keeps pages))

pub returns-clause-same_dirty : goal.returns-clause-same_dirty
returns-clause-same_dirty c = rw (← c.self.view_is) (dirty_behind TXN_TABLE_BLOCK c.self.inside.first c.self.inside.frames.entries c.make_room.new.frames.entries c.make_room.ensures.same_dirty)
