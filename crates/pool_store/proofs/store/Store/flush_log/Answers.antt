use Rattle.std.proofs.Common.{rules}
use Rattle.pool_store.proofs.Looking.{flush_done, flush_failed_as, flushed_at}
use Rattle.pool_store.proofs.store.Store.flush_log.Goals as goal

pub returns-in-Ok-clause-looked : goal.returns-in-Ok-clause-looked
returns-in-Ok-clause-looked g c =
    let e = c.in-Ok.ensures in
    flush_done g.D.Disk.meaning _ _ g.met.D.Disk.as_read (record { loan = search rules; first = search rules; shape = search rules; pages = search rules; commits = search rules }) (search rules)
    (flushed_at g.D.Disk.meaning _ c.self.inside.disk.now _ _ c.self.inside.log _ _ (search rules) (search rules)
    (record { any_moment = e.any_moment; ready = e.ready; list = e.list; stable = e.stable; refused = tt; cause = e.cause; told = e.told; reads = e.reads })) (search rules)

pub returns-in-Err-clause-looked : goal.returns-in-Err-clause-looked
returns-in-Err-clause-looked g c =
    let e = c.in-Err.ensures in
    flush_failed_as g.D.Disk.meaning _ _ g.met.D.Disk.as_read (record { loan = search rules; first = search rules; shape = search rules; pages = search rules; commits = search rules }) (search rules) c.in-Err.fault e.only
    (flushed_at g.D.Disk.meaning _ c.self.inside.disk.now _ _ c.self.inside.log _ _ (search rules) (search rules)
    (record { any_moment = e.any_moment; ready = e.ready; list = e.list; stable = tt; refused = e.refused; cause = e.cause; told = e.told; reads = e.reads })) (search rules)
