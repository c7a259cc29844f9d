use Rattle.std.proofs.Common.{rules}
use Rattle.assm.proofs.Summed.{sums_to}
use Rattle.assm.proofs.generating.sum_read.Goals as goal

pub returns-clause-summed : goal.returns-clause-summed
returns-clause-summed g c = λ since data_bytes sh R h.
    sums_to g.D.Disk.meaning since data_bytes sh R c.args.disk.now _ _ c.args.loaded c.over-store.result c.sum_store-summed.new.store c.args.scripts.now
    c.over-store.ensures (search rules) h c.sum_store-summed.ensures.loan c.sum_store-summed.result c.sum_store-summed.ensures.ran c.sum_store-summed.ensures.unspent c.moment-moment.result c.moment-moment.ensures.moment c.moment-moment.ensures.needed g.met.D.Disk.as_read
