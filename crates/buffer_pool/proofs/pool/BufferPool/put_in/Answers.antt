use Rattle.std.proofs.Common.{arith, ◌∷◌, ◌∙◌}
use Rattle.std.proofs.lemmas.Grind.{common_steps}
use Rattle.seg_words.specs.Types.{TXN_TABLE_BLOCK}
use Rattle.buffer_pool.proofs.Installs.{dirty_count-le-length, weight_le, has_frame, absent_changed, installed_frame, only_pages_still, unequal}
use Rattle.buffer_pool.proofs.pool.BufferPool.put_in.Goals as goal

pub raised-self-inside-requires : goal.raised-self-inside-requires
raised-self-inside-requires c = omega (arith, dirty_count-le-length c.self.inside.frames.entries, weight_le c.self.inside.first, c.len-count.ensures.valid.1, c.self.invariant.0, c.self.invariant.1)

pub invariant_of-self : goal.invariant_of-self
invariant_of-self c =
    let n = TXN_TABLE_BLOCK in let f = c.self.inside.first in let es = c.self.inside.frames.entries in let k = c.args.block in
    let other = unequal k n c.if-block-eq-TXN_TABLE_BLOCK.false in
    let has2 = rw (← c.self.view_is) at c.requires in
    let has = has_frame n f k es other has2 in (
      grind (arith, common_steps, c.change-clean.ensures.dirty, c.raised-self-inside.ensures, c.self.invariant.0),
      c.change-clean.ensures.cap ∙ c.self.invariant.1,
      rw c.change-clean.ensures.entries (absent_changed n k c.args.page es other has c.self.invariant.2),
      rw c.change-clean.ensures.entries (only_pages_still c.self.inside.store (record { dba = k; page = c.args.page }) ((n, f) ∷ es) _ (installed_frame n f k c.args.page es other has) has2 c.self.invariant.3),
    )

pub returns-clause-installed : goal.returns-clause-installed
returns-clause-installed c =
    let n = TXN_TABLE_BLOCK in let f = c.self.inside.first in let es = c.self.inside.frames.entries in let k = c.args.block in
    let other = unequal k n c.if-block-eq-TXN_TABLE_BLOCK.false in
    let has = has_frame n f k es other (rw (← c.self.view_is) at c.requires) in
    rw (c.change-clean.ensures.entries, ← c.self.view_is) (installed_frame n f k c.args.page es other has)

pub returns-then-block-eq-TXN_TABLE_BLOCK-clause-installed : goal.returns-then-block-eq-TXN_TABLE_BLOCK-clause-installed
returns-then-block-eq-TXN_TABLE_BLOCK-clause-installed c = rw c.if-block-eq-TXN_TABLE_BLOCK.true c.put_first.ensures.installed
