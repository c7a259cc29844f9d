use Rattle.std.proofs.Common.{◌∙◌, List, ap, reverse, subst, sym}
use Rattle.std.specs.Prelude.{None, []}
use Rattle.seg_words.specs.Types.{is_shape}
use Rattle.disk_model.proofs.Going.{untouched_then}
use Rattle.redo_model.specs.Records.{Record}
use Rattle.redo_log.specs.Found.{WalkEnds}
use Rattle.store_core.specs.Store.{Read}
use Rattle.store_core.proofs.LogRead.{is_read_of}
use Rattle.store_core.proofs.Prepared.{settled_then, is_log_then, durable_settled, is_read, read_list, read_true, read_survives, memory_is_sound, lawful_as, log_then}
use Rattle.store_core.proofs.opening.prepare.Goals as goal

pub returns-in-Err-clause-sound : goal.returns-in-Err-clause-sound
returns-in-Err-clause-sound g c = λ sh R settled log lawful. c.in-Err.ensures.whole sh log.groups settled.told log.log

pub returns-in-Err-log_of-clause-sound : goal.returns-in-Err-log_of-clause-sound
returns-in-Err-log_of-clause-sound g c = λ sh R settled log lawful.
    let meaning = g.D.Disk.meaning in
    let d0 = c.args.disk.now in
    let d1 = c.shape_of.new.disk in
    let d2 = c.log_of.new.disk in
    let look1 = c.in-Ok.ensures.untouched in
    let log1 = is_log_then meaning d0 d1 sh log.groups settled.told look1 log.log in
    let settled1 = settled_then meaning d0 d1 settled look1 in
    c.in-Err-log_of.ensures.whole sh log.groups R settled1 log1 log.holds

pub returns-in-Err-records_of-clause-sound : goal.returns-in-Err-records_of-clause-sound
returns-in-Err-records_of-clause-sound g c = λ sh R settled log lawful.
    let meaning = g.D.Disk.meaning in
    let d0 = c.args.disk.now in
    let d1 = c.shape_of.new.disk in
    let d2 = c.log_of.new.disk in
    let look1 = c.in-Ok.ensures.untouched in
    let log1 = is_log_then meaning d0 d1 sh log.groups settled.told look1 log.log in
    let settled1 = settled_then meaning d0 d1 settled look1 in
    let look2 = c.in-Ok-log_of.ensures.untouched in
    let log2 = is_log_then meaning d1 d2 sh log.groups settled1.told look2 log1 in
    let told2 = look2.told.1 settled1.told in
    c.in-Err-records_of.ensures.whole sh log.groups R told2 log2 log.holds

pub returns-in-Err-pages_of-clause-sound : goal.returns-in-Err-pages_of-clause-sound
returns-in-Err-pages_of-clause-sound g c = λ sh R settled log lawful.
    let meaning = g.D.Disk.meaning in
    let d0 = c.args.disk.now in
    let d1 = c.shape_of.new.disk in
    let d2 = c.log_of.new.disk in
    let look1 = c.in-Ok.ensures.untouched in
    let log1 = is_log_then meaning d0 d1 sh log.groups settled.told look1 log.log in
    let settled1 = settled_then meaning d0 d1 settled look1 in
    let look2 = c.in-Ok-log_of.ensures.untouched in
    let log2 = is_log_then meaning d1 d2 sh log.groups settled1.told look2 log1 in
    let told2 = look2.told.1 settled1.told in
    let look3 = c.in-Ok-records_of.ensures.untouched in
    let all = c.in-Ok-records_of.ensures.whole sh log.groups R told2 log2 log.holds in
    let shape = c.in-Ok.ensures.whole sh log.groups settled.told log.log in
    memory_is_sound c.in-Err-pages_of.fault (c.in-Err-pages_of.ensures.lawful (ap is_shape shape ∙ log.log.within) (lawful_as sh c.in-Ok.shape R (reverse c.deref.result.now) shape (ap reverse c.deref.ensures.value ∙ all) lawful))

pub returns-clause-list : goal.returns-clause-list
returns-clause-list g c = λ sh R settled log loan.
    let meaning = g.D.Disk.meaning in
    let d0 = c.args.disk.now in
    let d1 = c.shape_of.new.disk in
    let d2 = c.log_of.new.disk in
    let look1 = c.in-Ok.ensures.untouched in
    let log1 = is_log_then meaning d0 d1 sh log.groups settled.told look1 log.log in
    let settled1 = settled_then meaning d0 d1 settled look1 in
    let look2 = c.in-Ok-log_of.ensures.untouched in
    let log2 = is_log_then meaning d1 d2 sh log.groups settled1.told look2 log1 in
    let told2 = look2.told.1 settled1.told in
    let look3 = c.in-Ok-records_of.ensures.untouched in
    let all = c.in-Ok-records_of.ensures.whole sh log.groups R told2 log2 log.holds in
    let shape = c.in-Ok.ensures.whole sh log.groups settled.told log.log in
    let opened = c.in-Ok-log_of.ensures.whole sh log.groups R settled1 log1 log.holds in
    let r : Read g.row.D.Denot = record { first = c.of-first.result.value; shape = c.in-Ok.shape; log = c.in-Ok-log_of.log; pages = c.in-Ok-pages_of.pages; commits = c.count_commits-commits.result; fault = None } in
    let is = is_read meaning d2 sh log.groups R r c.in-Ok-records_of.records.items c.deref.result.now c.deref-2.result.now log.log.within shape opened log.holds c.in-Ok-records_of.ensures.few all c.deref.ensures.value c.in-Ok-pages_of.ensures.pages c.deref-2.ensures.value c.count_commits-commits.ensures in
    let d3 = c.records_of.new.disk in
    read_list meaning d2 d3 sh log.groups R r is look3 loan

pub returns-clause-lawful : goal.returns-clause-lawful
returns-clause-lawful g c = λ sh R settled log lawful loan.
    let meaning = g.D.Disk.meaning in
    let d0 = c.args.disk.now in
    let d1 = c.shape_of.new.disk in
    let d2 = c.log_of.new.disk in
    let look1 = c.in-Ok.ensures.untouched in
    let log1 = is_log_then meaning d0 d1 sh log.groups settled.told look1 log.log in
    let settled1 = settled_then meaning d0 d1 settled look1 in
    let look2 = c.in-Ok-log_of.ensures.untouched in
    let log2 = is_log_then meaning d1 d2 sh log.groups settled1.told look2 log1 in
    let told2 = look2.told.1 settled1.told in
    let look3 = c.in-Ok-records_of.ensures.untouched in
    let all = c.in-Ok-records_of.ensures.whole sh log.groups R told2 log2 log.holds in
    let shape = c.in-Ok.ensures.whole sh log.groups settled.told log.log in
    let opened = c.in-Ok-log_of.ensures.whole sh log.groups R settled1 log1 log.holds in
    let r : Read g.row.D.Denot = record { first = c.of-first.result.value; shape = c.in-Ok.shape; log = c.in-Ok-log_of.log; pages = c.in-Ok-pages_of.pages; commits = c.count_commits-commits.result; fault = None } in
    let is = is_read meaning d2 sh log.groups R r c.in-Ok-records_of.records.items c.deref.result.now c.deref-2.result.now log.log.within shape opened log.holds c.in-Ok-records_of.ensures.few all c.deref.ensures.value c.in-Ok-pages_of.ensures.pages c.deref-2.ensures.value c.count_commits-commits.ensures in
    let d3 = c.records_of.new.disk in
    read_true meaning d2 d3 sh log.groups R r is look3 lawful loan

pub returns-clause-survives : goal.returns-clause-survives
returns-clause-survives g c = λ sh R durable sound loan.
    let settled = durable_settled g.D.Disk.meaning c.args.disk.now durable in
    let log = sound.log in
    let meaning = g.D.Disk.meaning in
    let d0 = c.args.disk.now in
    let d1 = c.shape_of.new.disk in
    let d2 = c.log_of.new.disk in
    let look1 = c.in-Ok.ensures.untouched in
    let log1 = is_log_then meaning d0 d1 sh log.groups settled.told look1 log.log in
    let settled1 = settled_then meaning d0 d1 settled look1 in
    let look2 = c.in-Ok-log_of.ensures.untouched in
    let log2 = is_log_then meaning d1 d2 sh log.groups settled1.told look2 log1 in
    let told2 = look2.told.1 settled1.told in
    let look3 = c.in-Ok-records_of.ensures.untouched in
    let all = c.in-Ok-records_of.ensures.whole sh log.groups R told2 log2 log.holds in
    let shape = c.in-Ok.ensures.whole sh log.groups settled.told log.log in
    let opened = c.in-Ok-log_of.ensures.whole sh log.groups R settled1 log1 log.holds in
    let r : Read g.row.D.Denot = record { first = c.of-first.result.value; shape = c.in-Ok.shape; log = c.in-Ok-log_of.log; pages = c.in-Ok-pages_of.pages; commits = c.count_commits-commits.result; fault = None } in
    let is = is_read meaning d2 sh log.groups R r c.in-Ok-records_of.records.items c.deref.result.now c.deref-2.result.now log.log.within shape opened log.holds c.in-Ok-records_of.ensures.few all c.deref.ensures.value c.in-Ok-pages_of.ensures.pages c.deref-2.ensures.value c.count_commits-commits.ensures in
    let d3 = c.records_of.new.disk in
    read_survives meaning d2 d3 sh log.groups R r is look3 d0 c.of-first.ensures durable sound (untouched_then meaning d0 d2 d3 (untouched_then meaning d0 d1 d2 look1 look2) look3) loan

pub returns-in-Err-clause-prepared : goal.returns-in-Err-clause-prepared
returns-in-Err-clause-prepared g c = λ told. c.in-Err.ensures.found told

pub returns-in-Err-log_of-clause-prepared : goal.returns-in-Err-log_of-clause-prepared
returns-in-Err-log_of-clause-prepared g c = λ told.
    let meaning = g.D.Disk.meaning in
    let d0 = c.args.disk.now in
    let d1 = c.shape_of.new.disk in
    let file = (meaning.files d0).log_bytes in
    let look1 = c.in-Ok.ensures.untouched in
    let told1 = look1.told.1 told in
    let same1 = log_then meaning d0 d1 told look1 in
    let head = c.in-Ok.ensures.found told in
    c.in-Err-log_of.ensures.found file c.in-Ok.shape told1 same1 head

pub returns-in-Err-records_of-clause-prepared : goal.returns-in-Err-records_of-clause-prepared
returns-in-Err-records_of-clause-prepared g c = λ told.
    let meaning = g.D.Disk.meaning in
    let d0 = c.args.disk.now in
    let d1 = c.shape_of.new.disk in
    let file = (meaning.files d0).log_bytes in
    let look1 = c.in-Ok.ensures.untouched in
    let told1 = look1.told.1 told in
    let same1 = log_then meaning d0 d1 told look1 in
    let head = c.in-Ok.ensures.found told in
    let d2 = c.log_of.new.disk in
    let look2 = c.in-Ok-log_of.ensures.untouched in
    let told2 = look2.told.1 told1 in
    let same2 = log_then meaning d1 d2 told1 look2 ∙ same1 in
    c.in-Err-records_of.ensures.found file c.in-Ok.shape told2 same2 head

pub returns-in-Err-pages_of-clause-prepared : goal.returns-in-Err-pages_of-clause-prepared
returns-in-Err-pages_of-clause-prepared g c = λ told.
    let meaning = g.D.Disk.meaning in
    let d0 = c.args.disk.now in
    let d1 = c.shape_of.new.disk in
    let file = (meaning.files d0).log_bytes in
    let look1 = c.in-Ok.ensures.untouched in
    let told1 = look1.told.1 told in
    let same1 = log_then meaning d0 d1 told look1 in
    let head = c.in-Ok.ensures.found told in
    let d2 = c.log_of.new.disk in
    let look2 = c.in-Ok-log_of.ensures.untouched in
    let told2 = look2.told.1 told1 in
    let same2 = log_then meaning d1 d2 told1 look2 ∙ same1 in
    let all = c.in-Ok-records_of.ensures.found file c.in-Ok.shape told2 same2 head in
    c.in-Err-pages_of.ensures.why file all.at head (subst (λ (l : List Record). WalkEnds file 63 all.at [] (reverse l)) (sym c.deref.ensures.value) all.ends)

pub returns-clause-prepared : goal.returns-clause-prepared
returns-clause-prepared g c = λ told.
    let meaning = g.D.Disk.meaning in
    let d0 = c.args.disk.now in
    let d1 = c.shape_of.new.disk in
    let file = (meaning.files d0).log_bytes in
    let look1 = c.in-Ok.ensures.untouched in
    let told1 = look1.told.1 told in
    let same1 = log_then meaning d0 d1 told look1 in
    let head = c.in-Ok.ensures.found told in
    let d2 = c.log_of.new.disk in
    let look2 = c.in-Ok-log_of.ensures.untouched in
    let told2 = look2.told.1 told1 in
    let same2 = log_then meaning d1 d2 told1 look2 ∙ same1 in
    let all = c.in-Ok-records_of.ensures.found file c.in-Ok.shape told2 same2 head in
    let found = c.in-Ok-log_of.ensures.found file c.in-Ok.shape told1 same1 head in
    let r : Read g.row.D.Denot = record { first = c.of-first.result.value; shape = c.in-Ok.shape; log = c.in-Ok-log_of.log; pages = c.in-Ok-pages_of.pages; commits = c.count_commits-commits.result; fault = None } in
    is_read_of file r c.in-Ok-records_of.records.items c.deref.result.now c.deref-2.result.now head found all c.deref.ensures.value c.in-Ok-pages_of.ensures.pages c.in-Ok-pages_of.ensures.fits c.deref-2.ensures.value c.count_commits-commits.ensures
