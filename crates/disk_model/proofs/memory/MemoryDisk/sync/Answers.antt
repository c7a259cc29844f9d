use Rattle.disk_model.specs.Types.{Sync}
use Rattle.disk_model.proofs.Moments.{on_ok, on_err, same_over, now_added}
use Rattle.disk_model.proofs.memory.MemoryDisk.sync.Goals as goal

pub returns-clause-durable : goal.returns-clause-durable
returns-clause-durable c _ =
    on_ok c.try_sync.result (λ adds. now_added c.args.self.now c.try_sync.new.self (Sync c.args.file) adds) c.try_sync.ensures.ok

pub returns-clause-crash : goal.returns-clause-crash
returns-clause-crash c image =
    on_err c.try_sync.result (λ over. (same_over c.args.self.now c.try_sync.new.self over image).0) c.try_sync.ensures.err
