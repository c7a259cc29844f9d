use Rattle.std.proofs.Common.{arith}
use Rattle.std.proofs.lemmas.Grind.{common_steps}
use Rattle.seg_words.specs.Types.{TXN_TABLE_BLOCK}
use Rattle.buffer_pool.proofs.Commits.{committed, front_same, only_front, shows_committed}
use Rattle.buffer_pool.proofs.Installs.{dirty_count-le-length, weight_le}
use Rattle.buffer_pool.proofs.pool.BufferPool.commit.Goals as goal

pub raised-self-inside-requires : goal.raised-self-inside-requires
raised-self-inside-requires c = omega (arith, dirty_count-le-length c.self.inside.frames.entries, weight_le c.self.inside.first, c.len-count.ensures.valid.1, c.self.invariant.0, c.self.invariant.1)

pub invariant_of-self : goal.invariant_of-self
invariant_of-self c =
    let f = c.self.inside.first in let g = c.commit_in-rose.new.frame in (
      grind (arith, common_steps, c.raised-self-inside.ensures, c.commit_in-rose.ensures.weight, c.self.invariant.0),
      c.self.invariant.1,
      c.self.invariant.2,
      only_front c.self.inside.store TXN_TABLE_BLOCK f g c.self.inside.frames.entries c.self.invariant.3,
    )

pub returns-clause-changed : goal.returns-clause-changed
returns-clause-changed c = rw (← c.self.view_is) (committed c.args.c c.args.lsn c.self.inside.first c.commit_in-rose.new.frame c.self.inside.frames.entries c.commit_in-rose.ensures.changed)

pub returns-clause-shows : goal.returns-clause-shows
returns-clause-shows c = rw (← c.self.view_is) (λ pages image.
    shows_committed c.args.c c.args.lsn c.self.inside.first c.commit_in-rose.new.frame c.self.inside.frames.entries c.commit_in-rose.ensures.changed c.self.inside.store pages image c.self.invariant.3)

pub returns-clause-kept : goal.returns-clause-kept
returns-clause-kept c = rw (← c.self.view_is) (λ misfit.
    let kept = c.commit_in-rose.ensures.kept misfit in
    let rose = rw kept.1 at c.raised-self-inside.ensures in
    front_same c.self.inside.store TXN_TABLE_BLOCK c.self.inside.first c.commit_in-rose.new.frame c.self.inside.frames.entries c.self.inside.dirty c.raised-self-inside.result kept.0 (omega (arith, rose)))
