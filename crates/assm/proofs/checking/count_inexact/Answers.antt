use Rattle.store_core.proofs.Lookups.{looked_ok}
use Rattle.assm.proofs.Counted.{sum_all, sum_begun, sum_fails, sum_sound, sum_step}
use Rattle.assm.proofs.checking.count_inexact.Goals as goal

pub loop-table-init : goal.loop-table-init
loop-table-init g c = sum_begun g.D.Disk.meaning c.args.store.now c.args.tables c.requires.unspent

pub loop-table-preserved : goal.loop-table-preserved
loop-table-preserved g c =
    sum_step g.D.Disk.meaning c.args.store.now c.loop-table.store c.inexact.new.store c.args.tables c.loop-table.table c.loop-table.count c.in-Ok.more c.with_more-count.result c.loop-table-test.true c.with_more-count.ensures.value c.with_more-count.ensures.small c.loop-table.invariant c.in-Ok.ensures.looked (λ R t i. c.in-Ok.ensures.says R t i)

pub returns-in-Err-clause-looked : goal.returns-in-Err-clause-looked
returns-in-Err-clause-looked g c = sum_fails g.D.Disk.meaning c.args.store.now c.loop-table.store c.inexact.new.store c.args.tables c.loop-table.table c.loop-table.count c.in-Err.fault c.loop-table.invariant c.in-Err.ensures.looked

pub returns-in-Err-clause-sound : goal.returns-in-Err-clause-sound
returns-in-Err-clause-sound g c = λ R t e. sum_sound g.D.Disk.meaning c.args.store.now c.loop-table.store c.args.tables c.loop-table.table c.loop-table.count c.in-Err.fault c.requires.unspent c.loop-table-test.true c.loop-table.invariant (λ Q q i n. c.in-Err.ensures.sound Q q i n) R t e

pub returns-clause-looked : goal.returns-clause-looked
returns-clause-looked g c = looked_ok g.D.Disk.meaning c.args.store.now c.loop-table.store tt c.loop-table.count c.loop-table.invariant.looked

pub returns-clause-says : goal.returns-clause-says
returns-clause-says g c = λ R t e. sum_all g.D.Disk.meaning c.args.store.now c.loop-table.store c.args.tables c.loop-table.table c.loop-table.count c.loop-table-test.false c.loop-table.invariant R t e
