use Rattle.std.proofs.Common.{sym}
use Rattle.buffer_pool.proofs.Batched.{clean_entries, clean_count}
use Rattle.buffer_pool.proofs.cache.clean.Goals as goal

pub returns-in-Some-clause-settled : goal.returns-in-Some-clause-settled
returns-in-Some-clause-settled c = clean_entries c.args.block c.in-Some.frame.now c.args.frames.now.entries (sym c.in-Some.ensures.value)

pub returns-in-Some-clause-dirty : goal.returns-in-Some-clause-dirty
returns-in-Some-clause-dirty c = clean_count c.args.block c.in-Some.frame.now c.args.frames.now.entries (sym c.in-Some.ensures.value) (rw (sym c.in-Some.ensures.value) at c.requires)
