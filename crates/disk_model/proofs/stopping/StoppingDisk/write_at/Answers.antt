use Rattle.std.proofs.Common.{length, arith}
use Rattle.disk_model.proofs.Stop.{stopped_crash, passed_crash, passed_same, cannot}
use Rattle.disk_model.proofs.stopping.StoppingDisk.write_at.Goals as goal

pub returns-then-self-eq0-clause-crash : goal.returns-then-self-eq0-clause-crash
returns-then-self-eq0-clause-crash g c = stopped_crash g.D.Disk.meaning g.met.D.Disk.in_time c.args.self.now c.fail.new.self c.args.file c.args.offset (length c.args.bytes.now) c.fail.ensures

pub returns-clause-crash : goal.returns-clause-crash
returns-clause-crash g c = passed_crash g.D.Disk.meaning g.met.D.Disk.in_time c.args.self.now.disk c.write_at.new.self c.args.self.now.extra c.args.file c.args.offset (length c.args.bytes.now) c.write_at.ensures.crash

pub returns-clause-nothing : goal.returns-clause-nothing
returns-clause-nothing g c not_here =
    let none = c.args.self.now.passing (omega (arith, c.if-self-eq0.false)) in
    let nothing = c.write_at.ensures.nothing (cannot g.D.Disk.meaning g.met.D.Disk.in_time c.args.self.now c.args.offset (length c.args.bytes.now) none not_here) in
    (nothing.0, passed_same g.D.Disk.meaning g.met.D.Disk.in_time c.args.self.now.disk c.write_at.new.self c.args.self.now.extra nothing.1, nothing.2)
