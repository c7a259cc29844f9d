use Rattle.std.proofs.Common.{◌∙◌}
use Rattle.pool_store.proofs.LogRead.{is_log_of}
use Rattle.pool_store.proofs.Prepared.{settled_then, is_log_then, log_then, opened_then}
use Rattle.pool_store.proofs.opening.read_log.Goals as goal

pub returns-in-Err-clause-whole : goal.returns-in-Err-clause-whole
returns-in-Err-clause-whole g c = λ sh groups R settled log holds. c.in-Err.ensures.whole sh groups settled.told log

pub returns-in-Err-log_of-clause-whole : goal.returns-in-Err-log_of-clause-whole
returns-in-Err-log_of-clause-whole g c = λ sh groups R settled log holds.
    let meaning = g.D.Disk.meaning in
    let d0 = c.args.disk.now in
    let d1 = c.shape_of.new.disk in
    let look1 = c.in-Ok.ensures.untouched in
    let log1 = is_log_then meaning d0 d1 sh groups settled.told look1 log in
    let settled1 = settled_then meaning d0 d1 settled look1 in
    c.in-Err-log_of.ensures.whole sh groups R settled1 log1 holds

pub returns-in-Err-records_of-clause-whole : goal.returns-in-Err-records_of-clause-whole
returns-in-Err-records_of-clause-whole g c = λ sh groups R settled log holds.
    let meaning = g.D.Disk.meaning in
    let d0 = c.args.disk.now in
    let d1 = c.shape_of.new.disk in
    let d2 = c.log_of.new.disk in
    let look1 = c.in-Ok.ensures.untouched in
    let log1 = is_log_then meaning d0 d1 sh groups settled.told look1 log in
    let told1 = look1.told.1 settled.told in
    let look2 = c.in-Ok-log_of.ensures.untouched in
    let log2 = is_log_then meaning d1 d2 sh groups told1 look2 log1 in
    c.in-Err-records_of.ensures.whole sh groups R (look2.told.1 told1) log2 holds

pub returns-clause-whole : goal.returns-clause-whole
returns-clause-whole g c = λ sh groups R settled log holds.
    let meaning = g.D.Disk.meaning in
    let d0 = c.args.disk.now in
    let d1 = c.shape_of.new.disk in
    let d2 = c.log_of.new.disk in
    let d3 = c.records_of.new.disk in
    let look1 = c.in-Ok.ensures.untouched in
    let log1 = is_log_then meaning d0 d1 sh groups settled.told look1 log in
    let settled1 = settled_then meaning d0 d1 settled look1 in
    let look2 = c.in-Ok-log_of.ensures.untouched in
    let log2 = is_log_then meaning d1 d2 sh groups settled1.told look2 log1 in
    let all = c.in-Ok-records_of.ensures.whole sh groups R (look2.told.1 settled1.told) log2 holds in
    let opened = c.in-Ok-log_of.ensures.whole sh groups R settled1 log1 holds in
    (c.in-Ok.ensures.whole sh groups settled.told log, opened_then meaning d2 d3 sh groups R c.in-Ok-log_of.log c.in-Ok-records_of.ensures.untouched opened, all)

pub returns-in-Err-clause-refused : goal.returns-in-Err-clause-refused
returns-in-Err-clause-refused g c = λ told. c.in-Err.ensures.found told

pub returns-in-Err-log_of-clause-refused : goal.returns-in-Err-log_of-clause-refused
returns-in-Err-log_of-clause-refused g c = λ told.
    let meaning = g.D.Disk.meaning in
    let d0 = c.args.disk.now in
    let file = (meaning.files d0).log_bytes in
    let look1 = c.in-Ok.ensures.untouched in
    c.in-Err-log_of.ensures.found file c.in-Ok.shape (look1.told.1 told) (log_then meaning d0 c.shape_of.new.disk told look1) (c.in-Ok.ensures.found told)

pub returns-in-Err-records_of-clause-refused : goal.returns-in-Err-records_of-clause-refused
returns-in-Err-records_of-clause-refused g c = λ told.
    let meaning = g.D.Disk.meaning in
    let d0 = c.args.disk.now in
    let d1 = c.shape_of.new.disk in
    let file = (meaning.files d0).log_bytes in
    let look1 = c.in-Ok.ensures.untouched in
    let told1 = look1.told.1 told in
    let look2 = c.in-Ok-log_of.ensures.untouched in
    let same2 = log_then meaning d1 c.log_of.new.disk told1 look2 ∙ log_then meaning d0 d1 told look1 in
    c.in-Err-records_of.ensures.found file c.in-Ok.shape (look2.told.1 told1) same2 (c.in-Ok.ensures.found told)

pub returns-clause-found : goal.returns-clause-found
returns-clause-found g c = λ told.
    let meaning = g.D.Disk.meaning in
    let d0 = c.args.disk.now in
    let d1 = c.shape_of.new.disk in
    let file = (meaning.files d0).log_bytes in
    let look1 = c.in-Ok.ensures.untouched in
    let told1 = look1.told.1 told in
    let same1 = log_then meaning d0 d1 told look1 in
    let head = c.in-Ok.ensures.found told in
    let look2 = c.in-Ok-log_of.ensures.untouched in
    let same2 = log_then meaning d1 c.log_of.new.disk told1 look2 ∙ same1 in
    let found = c.in-Ok-log_of.ensures.found file c.in-Ok.shape told1 same1 head in
    let all = c.in-Ok-records_of.ensures.found file c.in-Ok.shape (look2.told.1 told1) same2 head in
    is_log_of file c.in-Ok.shape c.in-Ok-log_of.log c.in-Ok-records_of.records.items head found all
