use Rattle.std.proofs.Common.{arith, refl, ◌∷◌}
use Rattle.std.proofs.lemmas.Grind.{common_steps}
use Rattle.seg_words.specs.Types.{TXN_TABLE_BLOCK}
use Rattle.buffer_pool.proofs.Installs.{dirty_count-le-length, weight_le, installed_first, only_pages_still}
use Rattle.buffer_pool.proofs.pool.BufferPool.put_first.Goals as goal

pub raised-self-inside-requires : goal.raised-self-inside-requires
raised-self-inside-requires c = omega (arith, dirty_count-le-length c.self.inside.frames.entries, weight_le c.self.inside.first, c.len-count.ensures.valid.1, c.self.invariant.0, c.self.invariant.1)

pub invariant_of-self : goal.invariant_of-self
invariant_of-self c =
    let f = c.self.inside.first in let es = c.self.inside.frames.entries in (
      grind (arith, common_steps, c.raised-self-inside.ensures, c.self.invariant.0),
      c.self.invariant.1,
      c.self.invariant.2,
      only_pages_still c.self.inside.store (record { dba = TXN_TABLE_BLOCK; page = c.args.page }) ((TXN_TABLE_BLOCK, f) ∷ es) _ (installed_first TXN_TABLE_BLOCK f c.args.page es) refl c.self.invariant.3,
    )

pub returns-clause-installed : goal.returns-clause-installed
returns-clause-installed c = rw (← c.self.view_is) (installed_first TXN_TABLE_BLOCK c.self.inside.first c.args.page c.self.inside.frames.entries)
