use Rattle.buffer_pool.proofs.Entries.{put_entries-new}
use Rattle.buffer_pool.proofs.cache.add.Goals as goal

pub returns-clause-entries : goal.returns-clause-entries
returns-clause-entries c = rw c.in_ok-put.ensures.entries (put_entries-new c.args.frames.now c.args.block _ c.requires.absent c.requires.room)
