use Rattle.std.proofs.Common.{arith}
use Rattle.buffer_pool.proofs.Drops.{keeps_dropped, dirty_dropped, fits_dropped, absent_dropped, count_dropped}
use Rattle.buffer_pool.proofs.cache.drop_clean.Goals as goal

pub returns-in-Some-clause-length : goal.returns-in-Some-clause-length
returns-in-Some-clause-length c = rw c.pop.ensures.entries (omega (arith, fits_dropped c.in-Some.block c.args.frames.now.entries c.in-Some.ensures.clean, c.len-count.ensures.valid.1))

pub returns-in-Some-clause-keeps : goal.returns-in-Some-clause-keeps
returns-in-Some-clause-keeps c = λ pages. rw c.pop.ensures.entries (keeps_dropped pages c.in-Some.block c.args.frames.now.entries c.len-count.ensures.valid.0 c.in-Some.ensures.clean)

pub returns-in-Some-clause-same_dirty : goal.returns-in-Some-clause-same_dirty
returns-in-Some-clause-same_dirty c = rw c.pop.ensures.entries (dirty_dropped c.in-Some.block c.args.frames.now.entries c.len-count.ensures.valid.0 c.in-Some.ensures.clean)

pub returns-in-Some-clause-absent : goal.returns-in-Some-clause-absent
returns-in-Some-clause-absent c = λ k h. rw c.pop.ensures.entries (absent_dropped c.in-Some.block k c.args.frames.now.entries c.len-count.ensures.valid.0 h)

pub returns-in-Some-clause-dirty : goal.returns-in-Some-clause-dirty
returns-in-Some-clause-dirty c = rw c.pop.ensures.entries (count_dropped c.in-Some.block c.args.frames.now.entries c.in-Some.ensures.clean)

pub returns-in-Some-clause-oldest : goal.returns-in-Some-clause-oldest
returns-in-Some-clause-oldest c = rw c.pop.ensures.entries c.in-Some.ensures.oldest
