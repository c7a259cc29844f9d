use Rattle.std.proofs.Common.{rules}
use Rattle.assm.proofs.Ending.{runs_to}
use Rattle.assm.proofs.run.run_read.Goals as goal

pub returns-clause-ran : goal.returns-clause-ran
returns-clause-ran g c = λ since data_bytes sh R h.
    runs_to g.D.Disk.meaning since data_bytes sh R c.args.disk.now _ _ c.args.loaded c.over-store.result c.run_scripts-ran.new.store c.args.scripts.now (g.K.Sink.written c.args.sink.now) (g.K.Sink.written c.run_scripts-ran.new.sink)
    c.over-store.ensures (search rules) h c.run_scripts-ran.ensures.loan c.run_scripts-ran.result c.run_scripts-ran.ensures.ran c.run_scripts-ran.ensures.unspent c.moment-moment.result c.moment-moment.ensures.moment c.moment-moment.ensures.needed g.met.D.Disk.as_read
