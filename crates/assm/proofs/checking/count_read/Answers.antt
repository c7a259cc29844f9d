use Rattle.std.proofs.Common.{rules}
use Rattle.assm.proofs.Counted.{counts_to}
use Rattle.assm.proofs.checking.count_read.Goals as goal

pub returns-clause-counted : goal.returns-clause-counted
returns-clause-counted g c = λ since data_bytes sh R h.
    counts_to g.D.Disk.meaning since data_bytes sh R c.args.disk.now _ _ c.args.loaded c.over-store.result c.count_store-counted.new.store c.over-store.ensures (search rules) h c.count_store-counted.result c.count_store-counted.ensures.looked c.count_store-counted.ensures.says c.count_store-counted.ensures.sound
