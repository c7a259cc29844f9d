use Rattle.std.proofs.Common.{length, arith}
use Rattle.disk_model.proofs.WriteAndSync.{first_write, after_sync, is_put}
use Rattle.disk_model.proofs.whole.write_and_sync.Goals as goal

pub returns-in_err-write_at-clause-any_moment : goal.returns-in_err-write_at-clause-any_moment
returns-in_err-write_at-clause-any_moment g c settled =
    let n = length c.args.bytes.now in
    (first_write g.D.Disk.meaning c.args.disk.now c.args.file c.args.offset n c.write_at.new.self n (omega arith) settled c.write_at.ensures.time c.write_at.ensures.crash).leaves

pub returns-clause-any_moment : goal.returns-clause-any_moment
returns-clause-any_moment g c settled =
    let n = length c.args.bytes.now in
    let write = c.write_at.ensures in
    let sync = c.sync.ensures in
    let so = first_write g.D.Disk.meaning c.args.disk.now c.args.file c.args.offset n c.write_at.new.self n (omega arith) settled write.time write.crash in
    (after_sync g.D.Disk.meaning c.args.disk.now c.args.file c.args.offset n c.write_at.new.self c.sync.new.self c.args.bytes.now c.sync.result so (c.in_ok-write_at.ensures.written settled.told)
    (sync.durable (write.told.1 settled.told)) (write.torn settled.told).torn sync.time sync.crash).leaves

pub returns-clause-put : goal.returns-clause-put
returns-clause-put g c settled =
    let n = length c.args.bytes.now in
    let write = c.write_at.ensures in
    let sync = c.sync.ensures in
    let told = write.told.1 settled.told in
    let so = first_write g.D.Disk.meaning c.args.disk.now c.args.file c.args.offset n c.write_at.new.self n (omega arith) settled write.time write.crash in
    is_put g.D.Disk.meaning c.args.disk.now c.args.file c.args.offset n c.write_at.new.self c.sync.new.self c.args.bytes.now c.sync.result so (c.in_ok-write_at.ensures.written settled.told)
    (sync.durable told) (sync.told.1 told) (sync.same told)
