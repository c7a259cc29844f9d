use Rattle.std.proofs.Common.{◌≡◌, IfOk, subst}
use Rattle.seg_words.specs.Types.{Shape}
use Rattle.txn_block.specs.Types.{TxnTable}
use Rattle.store_core.proofs.Lookups.{looked_on, looked_err}
use Rattle.space_usage.specs.Counting.{inexact_count}
use Rattle.space_usage.proofs.counting.inexact.Goals as goal

pub returns-in-Ok-clause-looked : goal.returns-in-Ok-clause-looked
returns-in-Ok-clause-looked g c = looked_on g.D.Disk.meaning c.args.store.now c.copy_table.new.self c.inexact_by.new.store c.in-Ok.table c.inexact_by.result c.in-Ok.ensures.looked c.inexact_by.ensures.looked

pub returns-in-Ok-clause-says : goal.returns-in-Ok-clause-says
returns-in-Ok-clause-says g c = λ R t i. subst (λ (sh : Shape). IfOk c.inexact_by.result (λ n. n ≡ inexact_count sh R c.args.obj)) c.in-Ok.ensures.looked.loan.shape
    (c.inexact_by.ensures.says R (c.in-Ok.ensures.looked.stays_true R t) i (c.in-Ok.ensures.holds R t))

pub returns-in-Ok-clause-sound : goal.returns-in-Ok-clause-sound
returns-in-Ok-clause-sound g c = λ R t i n. c.inexact_by.ensures.sound R (c.in-Ok.ensures.looked.stays_true R t) i (c.in-Ok.ensures.holds R t) (c.in-Ok.ensures.looked.cause.kept n)

pub returns-in-Err-clause-looked : goal.returns-in-Err-clause-looked
returns-in-Err-clause-looked g c = looked_err {A = TxnTable} g.D.Disk.meaning c.args.store.now c.copy_table.new.self c.in-Err.fault c.in-Err.ensures.looked

pub returns-in-Err-clause-sound : goal.returns-in-Err-clause-sound
returns-in-Err-clause-sound g c = λ R t i n. c.in-Err.ensures.sound R t n
