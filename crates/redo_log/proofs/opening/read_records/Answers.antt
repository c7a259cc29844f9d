use Rattle.std.proofs.Common.{◌≡◌, ℕ, List, reverse, [], arith, ap, sym, ◌∙◌, Ok, Err}
use Rattle.disk_model.specs.Types.{Files}
use Rattle.disk_model.proofs.Lemmas.{untouched_start, untouched_then}
use Rattle.redo_log.proofs.Walking.{gathering_begins, gathering_more, gathered_all, frame_breaks, payload_breaks, advanced, went_on, was_shut}
use Rattle.redo_log.proofs.opening.read_records.Goals as goal

pub groups-init : goal.groups-init
groups-init g c = record {
  look = untouched_start g.D.Disk.meaning c.args.disk.now;
  later = omega arith;
  fits = c.requires;
  run = λ told covers. gathering_begins (g.D.Disk.meaning.files c.args.disk.now).log_bytes c.args.groups.now c.new-records.result.items covers c.new-records.ensures.items;
}

pub groups-preserved : goal.groups-preserved
groups-preserved g c = record {
  look = untouched_then g.D.Disk.meaning c.args.disk.now c.groups.disk c.advance.new.disk c.groups.invariant.look c.advance.ensures.untouched;
  later = omega (arith, c.groups.invariant.later, c.advance.ensures.cause.later);
  fits = c.advance.ensures.room c.groups.invariant.fits;
  run = λ told covers.
      let meaning = g.D.Disk.meaning in
      let start = c.args.disk.now in
      let file = (meaning.files start).log_bytes in
      let later = (meaning.files c.groups.disk).log_bytes in
      let look = c.groups.invariant.look in
      let so_far = c.groups.invariant.run told covers in
      let same : later ≡ file = ap (λ (f : Files). f.log_bytes) (look.files told) in
      let goes = advanced file later c.groups.groups.next c.groups.groups c.advance.new.self (Ok c.in-Ok-true.field-0) same so_far.covers (c.in-Ok-true.ensures.goes (look.told.1 told)) in
      gathering_more file c.args.groups.now.next c.groups.groups c.advance.new.self c.groups.records.items c.add_group.new.into.items so_far (went_on file c.groups.groups.next c.advance.new.self c.in-Ok-true.field-0 c.in-Ok-true.field-0-test goes) c.in-Ok.ensures;
}

pub groups-smaller : goal.groups-smaller
groups-smaller g c = omega (arith, c.in-Ok-true.ensures.on c.in-Ok-true.field-0-test, c.advance.ensures.room c.groups.invariant.fits)

pub returns-in-Ok-false-clause-read : goal.returns-in-Ok-false-clause-read
returns-in-Ok-false-clause-read g c told covers =
    let meaning = g.D.Disk.meaning in
    let start = c.args.disk.now in
    let file = (meaning.files start).log_bytes in
    let later = (meaning.files c.groups.disk).log_bytes in
    let look = c.groups.invariant.look in
    let so_far = c.groups.invariant.run told covers in
    let same : later ≡ file = ap (λ (f : Files). f.log_bytes) (look.files told) in
    let goes = advanced file later c.groups.groups.next c.groups.groups c.advance.new.self (Ok c.in-Ok-false.field-0) same so_far.covers (c.in-Ok-false.ensures.goes (look.told.1 told)) in
    gathered_all file c.args.groups.now.next c.groups.groups.next c.groups.records.items so_far.walked (was_shut file c.groups.groups.next c.advance.new.self c.in-Ok-false.field-0 c.in-Ok-false.field-0-test goes).0

pub returns-in-Err-clause-read : goal.returns-in-Err-clause-read
returns-in-Err-clause-read g c told covers =
    let meaning = g.D.Disk.meaning in
    let start = c.args.disk.now in
    let file = (meaning.files start).log_bytes in
    let later = (meaning.files c.groups.disk).log_bytes in
    let look = c.groups.invariant.look in
    let so_far = c.groups.invariant.run told covers in
    let same : later ≡ file = ap (λ (f : Files). f.log_bytes) (look.files told) in
    let goes = advanced file later c.groups.groups.next c.groups.groups c.advance.new.self (Err c.in-Err.fault) same so_far.covers (c.in-Err.ensures.goes (look.told.1 told)) in
    frame_breaks file c.args.groups.now.next c.groups.groups.next c.advance.new.self [] (reverse c.groups.records.items) c.in-Err.fault c.of_frame.result c.of_frame.ensures.same so_far.walked goes

pub returns-in-Err-add_group-clause-read : goal.returns-in-Err-add_group-clause-read
returns-in-Err-add_group-clause-read g c told covers =
    let meaning = g.D.Disk.meaning in
    let start = c.args.disk.now in
    let file = (meaning.files start).log_bytes in
    let later = (meaning.files c.groups.disk).log_bytes in
    let look = c.groups.invariant.look in
    let so_far = c.groups.invariant.run told covers in
    let same : later ≡ file = ap (λ (f : Files). f.log_bytes) (look.files told) in
    let goes = advanced file later c.groups.groups.next c.groups.groups c.advance.new.self (Ok c.in-Ok-true.field-0) same so_far.covers (c.in-Ok-true.ensures.goes (look.told.1 told)) in
    payload_breaks file c.args.groups.now.next c.groups.groups.next c.advance.new.self [] (reverse c.groups.records.items) (reverse c.groups.records.items) (reverse c.add_group.new.into.items) c.in-Err-add_group.fault so_far.walked (went_on file c.groups.groups.next c.advance.new.self c.in-Ok-true.field-0 c.in-Ok-true.field-0-test goes) c.in-Err-add_group.ensures
