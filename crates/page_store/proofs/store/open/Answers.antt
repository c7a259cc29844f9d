use Rattle.std.proofs.Common.{arith, ap, length}
use Rattle.disk_model.specs.Types.{Files, Settles}
use Rattle.disk_model.specs.declared.disk.File.TheVariants.{Data}
use Rattle.page_store.specs.Types.{AsLong, IsShut, Leads}
use Rattle.page_store.proofs.Heads.{sound_long}
use Rattle.page_store.proofs.Whole.{fault_answers}
use Rattle.page_store.proofs.Opening.{same_fault, not_bad, none_found, some_found, device_fault, finished_only, looked_at, was_shut, unfinished, finish_leaves, finish_leads}
use Rattle.page_store.proofs.store.open.Goals as goal

pub returns-in-Ok-None-clause-any_moment : goal.returns-in-Ok-None-clause-any_moment
returns-in-Ok-None-clause-any_moment g c pages settled has =
    let meaning = g.D.Disk.meaning in
    let d0 = c.args.disk.now in
    let d1 = c.find_area.new.disk in
    let bytes = (meaning.files d0).data_bytes in
    let look = c.find_area.ensures.untouched in
    looked_at meaning c.args.shape pages d0 d1 settled has look

pub returns-in-Ok-None-clause-opened : goal.returns-in-Ok-None-clause-opened
returns-in-Ok-None-clause-opened g c pages settled has =
    let meaning = g.D.Disk.meaning in
    let d0 = c.args.disk.now in
    let d1 = c.find_area.new.disk in
    let bytes = (meaning.files d0).data_bytes in
    let look = c.find_area.ensures.untouched in
    let found = none_found c.args.shape bytes c.in-Ok-None.field-0 c.in-Ok-None.field-0-is (c.in-Ok-None.ensures.found settled.told) in
    was_shut meaning c.args.shape pages d0 d1 settled has look found.1

pub returns-in-Ok-None-clause-found : goal.returns-in-Ok-None-clause-found
returns-in-Ok-None-clause-found g c told =
    let bytes = (g.D.Disk.meaning.files c.args.disk.now).data_bytes in
    (none_found c.args.shape bytes c.in-Ok-None.field-0 c.in-Ok-None.field-0-is (c.in-Ok-None.ensures.found told)).0

pub returns-in-Err-clause-any_moment : goal.returns-in-Err-clause-any_moment
returns-in-Err-clause-any_moment g c pages settled has =
    let meaning = g.D.Disk.meaning in
    let d0 = c.args.disk.now in
    let d1 = c.find_area.new.disk in
    let bytes = (meaning.files d0).data_bytes in
    let look = c.find_area.ensures.untouched in
    looked_at meaning c.args.shape pages d0 d1 settled has look

pub returns-in-Err-clause-opened : goal.returns-in-Err-clause-opened
returns-in-Err-clause-opened g c pages settled has =
    let meaning = g.D.Disk.meaning in
    let d0 = c.args.disk.now in
    let d1 = c.find_area.new.disk in
    let bytes = (meaning.files d0).data_bytes in
    let look = c.find_area.ensures.untouched in
    not_bad c.args.shape bytes c.in-Err.fault (λ _. Leads meaning d0 d1 c.args.shape pages) has.area (c.in-Err.ensures.found settled.told)

pub returns-in-Err-clause-found : goal.returns-in-Err-clause-found
returns-in-Err-clause-found g c told =
    same_fault c.args.shape (g.D.Disk.meaning.files c.args.disk.now).data_bytes c.in-Err.fault (c.in-Err.ensures.found told)

pub returns-in-Ok-clause-any_moment : goal.returns-in-Ok-clause-any_moment
returns-in-Ok-clause-any_moment g c pages settled has =
    let meaning = g.D.Disk.meaning in
    let d0 = c.args.disk.now in
    let d1 = c.find_area.new.disk in
    let bytes = (meaning.files d0).data_bytes in
    let look = c.find_area.ensures.untouched in
    let d2 = c.finish.new.disk in
    let blocks = c.as_slice.result.now in
    let found = some_found c.args.shape bytes c.in-Ok-Some.field-0 c.in-Ok-Some.area blocks c.in-Ok-Some.field-0-is c.as_slice.ensures (c.in-Ok-Some.ensures.found settled.told) in
    let mid = unfinished meaning c.args.shape pages d0 d1 settled has look blocks found.1 found.2 in
    finish_leaves meaning c.args.shape pages d0 d1 settled has look blocks found.1 found.2 d2 (c.finish.ensures.any_moment c.args.shape pages mid.settled mid.holds.is)

pub returns-in-Err-finish-clause-any_moment : goal.returns-in-Err-finish-clause-any_moment
returns-in-Err-finish-clause-any_moment g c pages settled has =
    let meaning = g.D.Disk.meaning in
    let d0 = c.args.disk.now in
    let d1 = c.find_area.new.disk in
    let bytes = (meaning.files d0).data_bytes in
    let look = c.find_area.ensures.untouched in
    let d2 = c.finish.new.disk in
    let blocks = c.as_slice.result.now in
    let found = some_found c.args.shape bytes c.in-Ok-Some.field-0 c.in-Ok-Some.area blocks c.in-Ok-Some.field-0-is c.as_slice.ensures (c.in-Ok-Some.ensures.found settled.told) in
    let mid = unfinished meaning c.args.shape pages d0 d1 settled has look blocks found.1 found.2 in
    finish_leaves meaning c.args.shape pages d0 d1 settled has look blocks found.1 found.2 d2 (c.finish.ensures.any_moment c.args.shape pages mid.settled mid.holds.is)

pub returns-in-Ok-clause-opened : goal.returns-in-Ok-clause-opened
returns-in-Ok-clause-opened g c pages settled has =
    let meaning = g.D.Disk.meaning in
    let d0 = c.args.disk.now in
    let d1 = c.find_area.new.disk in
    let bytes = (meaning.files d0).data_bytes in
    let look = c.find_area.ensures.untouched in
    let d2 = c.finish.new.disk in
    let blocks = c.as_slice.result.now in
    let found = some_found c.args.shape bytes c.in-Ok-Some.field-0 c.in-Ok-Some.area blocks c.in-Ok-Some.field-0-is c.as_slice.ensures (c.in-Ok-Some.ensures.found settled.told) in
    let mid = unfinished meaning c.args.shape pages d0 d1 settled has look blocks found.1 found.2 in
    finish_leads meaning c.args.shape pages d0 d1 settled has look blocks found.1 found.2 d2 (c.in-Ok.ensures.done c.args.shape pages mid.settled mid.holds.is)

pub returns-in-Err-finish-clause-opened : goal.returns-in-Err-finish-clause-opened
returns-in-Err-finish-clause-opened g c pages settled has =
    let meaning = g.D.Disk.meaning in
    let d0 = c.args.disk.now in
    let d1 = c.find_area.new.disk in
    let bytes = (meaning.files d0).data_bytes in
    let look = c.find_area.ensures.untouched in
    let d2 = c.finish.new.disk in
    let blocks = c.as_slice.result.now in
    let found = some_found c.args.shape bytes c.in-Ok-Some.field-0 c.in-Ok-Some.area blocks c.in-Ok-Some.field-0-is c.as_slice.ensures (c.in-Ok-Some.ensures.found settled.told) in
    let mid = unfinished meaning c.args.shape pages d0 d1 settled has look blocks found.1 found.2 in
    fault_answers c.in-Err-finish.fault (λ _. Settles meaning d1 d2 Data (AsLong (meaning.files d1).data_bytes (IsShut c.args.shape pages))) (λ _. Leads meaning d0 d2 c.args.shape pages) (c.in-Err-finish.ensures.done c.args.shape pages mid.settled mid.holds.is)

pub returns-in-Ok-clause-found : goal.returns-in-Ok-clause-found
returns-in-Ok-clause-found g c told =
    let meaning = g.D.Disk.meaning in
    let bytes = (meaning.files c.args.disk.now).data_bytes in
    let found = some_found c.args.shape bytes c.in-Ok-Some.field-0 c.in-Ok-Some.area c.as_slice.result.now c.in-Ok-Some.field-0-is c.as_slice.ensures (c.in-Ok-Some.ensures.found told) in
    found.0

pub returns-in-Err-finish-clause-found : goal.returns-in-Err-finish-clause-found
returns-in-Err-finish-clause-found g c told =
    let meaning = g.D.Disk.meaning in
    let bytes = (meaning.files c.args.disk.now).data_bytes in
    let found = some_found c.args.shape bytes c.in-Ok-Some.field-0 c.in-Ok-Some.area c.as_slice.result.now c.in-Ok-Some.field-0-is c.as_slice.ensures (c.in-Ok-Some.ensures.found told) in
    let look = c.find_area.ensures.untouched in
    let long = sound_long c.args.shape bytes found.0 in
    device_fault c.args.shape bytes c.in-Err-finish.fault (c.in-Err-finish.ensures.whole (look.told.1 told) (omega (arith, long, ap (λ (f : Files). length f.data_bytes) (look.files told))))

pub returns-in-Ok-clause-unless_open : goal.returns-in-Ok-clause-unless_open
returns-in-Ok-clause-unless_open g c told none =
    let meaning = g.D.Disk.meaning in
    let bytes = (meaning.files c.args.disk.now).data_bytes in
    let found = some_found c.args.shape bytes c.in-Ok-Some.field-0 c.in-Ok-Some.area c.as_slice.result.now c.in-Ok-Some.field-0-is c.as_slice.ensures (c.in-Ok-Some.ensures.found told) in
    absurd (finished_only c.args.shape bytes found.0 found.1 none)

pub returns-in-Err-finish-clause-unless_open : goal.returns-in-Err-finish-clause-unless_open
returns-in-Err-finish-clause-unless_open g c told none =
    let meaning = g.D.Disk.meaning in
    let bytes = (meaning.files c.args.disk.now).data_bytes in
    let found = some_found c.args.shape bytes c.in-Ok-Some.field-0 c.in-Ok-Some.area c.as_slice.result.now c.in-Ok-Some.field-0-is c.as_slice.ensures (c.in-Ok-Some.ensures.found told) in
    absurd (finished_only c.args.shape bytes found.0 found.1 none)
