use Rattle.std.proofs.Common.{Ok, Err}
use Rattle.store_core.proofs.Lookups.{looked_on, looked_ok, looked_err}
use Rattle.lowering.proofs.Knowing.{knows_read}
use Rattle.lowering.proofs.ground.read_ground.Goals as goal

pub returns-in-Ok-copy_table-clause-looked : goal.returns-in-Ok-copy_table-clause-looked
returns-in-Ok-copy_table-clause-looked g c = looked_ok g.D.Disk.meaning c.args.store.now c.copy_table.new.self c.in-Ok-copy_table.table _ (looked_on g.D.Disk.meaning c.args.store.now c.read_segment.new.store c.copy_table.new.self c.in-Ok.segment (Ok c.in-Ok-copy_table.table) c.in-Ok.ensures.looked c.in-Ok-copy_table.ensures.looked)

pub returns-in-Ok-copy_table-clause-says : goal.returns-in-Ok-copy_table-clause-says
returns-in-Ok-copy_table-clause-says g c = λ R t i. knows_read g.D.Disk.meaning c.args.store.now c.copy_table.new.self R c.args.obj c.shape-shape.result c.in-Ok.segment c.in-Ok-copy_table.table (Ok c.in-Ok-copy_table.table) c.shape-shape.ensures
    (looked_on g.D.Disk.meaning c.args.store.now c.read_segment.new.store c.copy_table.new.self c.in-Ok.segment (Ok c.in-Ok-copy_table.table) c.in-Ok.ensures.looked c.in-Ok-copy_table.ensures.looked)
    t i (c.in-Ok.ensures.says R t i) (c.in-Ok-copy_table.ensures.holds R (c.in-Ok.ensures.looked.stays_true R t))

pub returns-in-Err-copy_table-clause-looked : goal.returns-in-Err-copy_table-clause-looked
returns-in-Err-copy_table-clause-looked g c = looked_on g.D.Disk.meaning c.args.store.now c.read_segment.new.store c.copy_table.new.self c.in-Ok.segment (Err c.in-Err-copy_table.fault) c.in-Ok.ensures.looked (looked_err g.D.Disk.meaning c.read_segment.new.store c.copy_table.new.self c.in-Err-copy_table.fault c.in-Err-copy_table.ensures.looked)

pub returns-in-Err-copy_table-clause-sound : goal.returns-in-Err-copy_table-clause-sound
returns-in-Err-copy_table-clause-sound g c = λ R t i n. c.in-Err-copy_table.ensures.sound R (c.in-Ok.ensures.looked.stays_true R t) (c.in-Ok.ensures.looked.cause.kept n)
