use Rattle.std.proofs.Common.{◌∷◌, [], arith}
use Rattle.disk_model.specs.declared.disk.File.TheVariants.{Data}
use Rattle.disk_model.proofs.WriteAndSync.{first_write, after_sync, is_put}
use Rattle.page_store.specs.Types.{AREA_AT}
use Rattle.page_store.proofs.Logs.{log_then, log_written, log_synced}
use Rattle.page_store.proofs.writing.set_gate.Goals as goal

pub returns-in_err-write_at-clause-any_moment : goal.returns-in_err-write_at-clause-any_moment
returns-in_err-write_at-clause-any_moment g c settled =
    (first_write g.D.Disk.meaning c.args.disk.now Data AREA_AT 1 c.write_at.new.self 1 (omega arith) settled c.write_at.ensures.time c.write_at.ensures.crash).leaves

pub returns-clause-any_moment : goal.returns-clause-any_moment
returns-clause-any_moment g c settled =
    let write = c.write_at.ensures in
    let sync = c.sync.ensures in
    let so = first_write g.D.Disk.meaning c.args.disk.now Data AREA_AT 1 c.write_at.new.self 1 (omega arith) settled write.time write.crash in
    (after_sync g.D.Disk.meaning c.args.disk.now Data AREA_AT 1 c.write_at.new.self c.sync.new.self (c.args.gate ∷ []) c.sync.result so (c.in_ok-write_at.ensures.written settled.told)
    (sync.durable (write.told.1 settled.told)) (write.torn settled.told).torn sync.time sync.crash).leaves

pub returns-clause-put : goal.returns-clause-put
returns-clause-put g c settled =
    let write = c.write_at.ensures in
    let sync = c.sync.ensures in
    let told = write.told.1 settled.told in
    let so = first_write g.D.Disk.meaning c.args.disk.now Data AREA_AT 1 c.write_at.new.self 1 (omega arith) settled write.time write.crash in
    is_put g.D.Disk.meaning c.args.disk.now Data AREA_AT 1 c.write_at.new.self c.sync.new.self (c.args.gate ∷ []) c.sync.result so (c.in_ok-write_at.ensures.written settled.told)
    (sync.durable told) (sync.told.1 told) (sync.same told)

pub returns-in_err-write_at-clause-log : goal.returns-in_err-write_at-clause-log
returns-in_err-write_at-clause-log g c = log_written g.D.Disk.meaning c.args.disk.now c.write_at.new.self _ _ c.write_at.ensures.time c.write_at.ensures.told c.write_at.ensures.crash c.write_at.ensures.torn

pub returns-clause-log : goal.returns-clause-log
returns-clause-log g c = log_then g.D.Disk.meaning c.args.disk.now c.write_at.new.self c.sync.new.self (log_written g.D.Disk.meaning c.args.disk.now c.write_at.new.self _ _ c.write_at.ensures.time c.write_at.ensures.told c.write_at.ensures.crash c.write_at.ensures.torn) (log_synced g.D.Disk.meaning c.write_at.new.self c.sync.new.self c.sync.result c.sync.ensures.time c.sync.ensures.told c.sync.ensures.durable c.sync.ensures.crash c.sync.ensures.same)
