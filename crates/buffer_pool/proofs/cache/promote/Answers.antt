use Rattle.buffer_pool.proofs.Entries.{lookup-promoted, sum_by-promoted, length-promoted}
use Rattle.buffer_pool.specs.Frames.{weight}
use Rattle.buffer_pool.proofs.cache.promote.Goals as goal

pub returns-clause-same : goal.returns-clause-same
returns-clause-same c = λ k. rw c.promote.ensures.entries (lookup-promoted c.args.block k c.args.frames.now.entries)

pub returns-clause-dirty : goal.returns-clause-dirty
returns-clause-dirty c = rw c.promote.ensures.entries (sum_by-promoted weight c.args.block c.args.frames.now.entries)

pub returns-clause-length : goal.returns-clause-length
returns-clause-length c = rw c.promote.ensures.entries (length-promoted c.args.block c.args.frames.now.entries)
