use Rattle.std.proofs.Common.{sym}
use Rattle.buffer_pool.proofs.Drops.{dirty_changed, set_value_none}
use Rattle.buffer_pool.proofs.cache.change.Goals as goal

pub returns-in-Some-clause-dirty : goal.returns-in-Some-clause-dirty
returns-in-Some-clause-dirty c = dirty_changed c.args.block c.args.frames.now.entries c.in-Some.frame.now c.args.page (sym c.in-Some.ensures.value)

pub returns-in-None-clause-entries : goal.returns-in-None-clause-entries
returns-in-None-clause-entries c = set_value_none c.args.block c.args.frames.now.entries _ (sym c.in-None.ensures.value)
