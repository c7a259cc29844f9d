use Rattle.std.specs.Prelude.{Err}
use Rattle.pool_store.proofs.UndoLent.{one_fault}
use Rattle.pool_store.proofs.undo.StoreUndoPages.refuse_undo.Goals as goal

pub returns : goal.returns
returns g c = one_fault g.D.Disk.meaning c.args.self.now c.refuse.new.self (Err c.refuse.result) c.refuse.ensures.looked
