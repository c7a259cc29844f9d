use Rattle.std.proofs.Common.{Ok}
use Rattle.txn_block.specs.Types.{TxnTable}
use Rattle.store_core.proofs.Lookups.{looked_on, looked_err}
use Rattle.space_usage.proofs.Stored.{block_later, segment_later}
use Rattle.space_usage.proofs.fixing.own_class.Goals as goal

pub returns-in-Ok-clause-looked : goal.returns-in-Ok-clause-looked
returns-in-Ok-clause-looked g c = looked_on g.D.Disk.meaning c.args.store.now c.copy_table.new.self c.own_class_by.new.store c.in-Ok.table c.own_class_by.result c.in-Ok.ensures.looked c.own_class_by.ensures.looked

pub returns-in-Ok-clause-says : goal.returns-in-Ok-clause-says
returns-in-Ok-clause-says g c = λ R o h is.
    let M = g.D.Disk.meaning in
    let a = c.args.store.now in
    let b = c.copy_table.new.self in
    let p = c.in-Ok.ensures.looked in
    c.own_class_by.ensures.says R o (block_later M a b R o c.args.dba (Ok c.in-Ok.table) p h) (segment_later M a b R o c.args.segment.now p.loan is) (c.in-Ok.ensures.holds R h.holds)

pub returns-in-Ok-clause-sound : goal.returns-in-Ok-clause-sound
returns-in-Ok-clause-sound g c = λ R o h is n.
    let M = g.D.Disk.meaning in
    let a = c.args.store.now in
    let b = c.copy_table.new.self in
    let p = c.in-Ok.ensures.looked in
    c.own_class_by.ensures.sound R o (block_later M a b R o c.args.dba (Ok c.in-Ok.table) p h) (segment_later M a b R o c.args.segment.now p.loan is) (c.in-Ok.ensures.holds R h.holds) (p.cause.kept n)

pub returns-in-Err-clause-looked : goal.returns-in-Err-clause-looked
returns-in-Err-clause-looked g c = looked_err {A = TxnTable} g.D.Disk.meaning c.args.store.now c.copy_table.new.self c.in-Err.fault c.in-Err.ensures.looked

pub returns-in-Err-clause-sound : goal.returns-in-Err-clause-sound
returns-in-Err-clause-sound g c = λ R o h is n. c.in-Err.ensures.sound R h.holds n
