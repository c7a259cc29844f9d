use Rattle.std.proofs.Common.{Ok}
use Rattle.txn_block.specs.Types.{TxnTable}
use Rattle.store_core.proofs.Lookups.{loan_on, cause_on, cause_err}
use Rattle.space_usage.proofs.Stored.{block_later, settles_on, settles_none}
use Rattle.space_usage.proofs.settling.settle.Goals as goal

pub returns-in-Ok-clause-settles : goal.returns-in-Ok-clause-settles
returns-in-Ok-clause-settles g c = λ R h.
    let M = g.D.Disk.meaning in
    let a = c.args.store.now in
    let b = c.copy_table.new.self in
    settles_on M a b c.settle_by.new.store R c.args.obj c.args.dba c.in-Ok.table c.settle_by.result h.holds c.in-Ok.ensures.looked
    (c.settle_by.ensures.settles R (block_later M a b R c.args.obj c.args.dba (Ok c.in-Ok.table) c.in-Ok.ensures.looked h) (c.in-Ok.ensures.holds R h.holds))

pub returns-in-Ok-clause-loan : goal.returns-in-Ok-clause-loan
returns-in-Ok-clause-loan g c = loan_on g.D.Disk.meaning c.args.store.now c.copy_table.new.self c.settle_by.new.store (λ R h. c.in-Ok.ensures.looked.list R h) c.in-Ok.ensures.looked.loan c.settle_by.ensures.loan

pub returns-in-Ok-clause-cause : goal.returns-in-Ok-clause-cause
returns-in-Ok-clause-cause g c = cause_on g.D.Disk.meaning c.args.store.now c.copy_table.new.self c.settle_by.new.store c.in-Ok.table c.settle_by.result c.in-Ok.ensures.looked.loan c.in-Ok.ensures.looked.cause c.settle_by.ensures.cause

pub returns-in-Err-clause-settles : goal.returns-in-Err-clause-settles
returns-in-Err-clause-settles g c = λ R h. settles_none g.D.Disk.meaning c.args.store.now c.copy_table.new.self R c.args.obj c.args.dba c.in-Err.fault h.holds c.in-Err.ensures.looked (λ n. c.in-Err.ensures.sound R h.holds n)

pub returns-in-Err-clause-loan : goal.returns-in-Err-clause-loan
returns-in-Err-clause-loan g c = c.in-Err.ensures.looked.loan

pub returns-in-Err-clause-cause : goal.returns-in-Err-clause-cause
returns-in-Err-clause-cause g c = cause_err {A = TxnTable} g.D.Disk.meaning c.args.store.now c.copy_table.new.self c.in-Err.fault c.in-Err.ensures.looked.cause
