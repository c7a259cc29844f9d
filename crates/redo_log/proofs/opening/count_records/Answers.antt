use Rattle.std.proofs.Common.{◌≡◌, ℕ, List, reverse, [], arith, ap, sym, ◌∙◌, Ok, Err}
use Rattle.disk_model.specs.Types.{Files}
use Rattle.disk_model.proofs.Lemmas.{untouched_start, untouched_then}
use Rattle.redo_log.proofs.Walking.{counting_begins, counting_more, count_shut, frame_breaks, payload_breaks, advanced, went_on, was_shut}
use Rattle.redo_log.proofs.opening.count_records.Goals as goal

pub groups-init : goal.groups-init
groups-init g c = record {
  look = untouched_start g.D.Disk.meaning c.args.disk.now;
  later = omega arith;
  fits = c.requires;
  run = λ R0 told covers before. counting_begins (g.D.Disk.meaning.files c.args.disk.now).log_bytes R0 c.args.groups.now c.args.before covers before;
}

pub groups-preserved : goal.groups-preserved
groups-preserved g c = record {
  look = untouched_then g.D.Disk.meaning c.args.disk.now c.groups.disk c.advance.new.disk c.groups.invariant.look c.advance.ensures.untouched;
  later = omega (arith, c.groups.invariant.later, c.advance.ensures.cause.later);
  fits = c.advance.ensures.room c.groups.invariant.fits;
  run = λ R0 told covers before.
      let meaning = g.D.Disk.meaning in
      let start = c.args.disk.now in
      let file = (meaning.files start).log_bytes in
      let later = (meaning.files c.groups.disk).log_bytes in
      let look = c.groups.invariant.look in
      let so_far = c.groups.invariant.run R0 told covers before in
      let same : later ≡ file = ap (λ (f : Files). f.log_bytes) (look.files told) in
      let goes = advanced file later c.groups.groups.next c.groups.groups c.advance.new.self (Ok c.in-Ok-true.field-0) same so_far.covers (c.in-Ok-true.ensures.goes (look.told.1 told)) in
      counting_more file c.args.groups.now.next R0 c.groups.groups c.advance.new.self c.groups.count c.number_after-count.result c.clear.new.self.items c.add_group.new.into.items so_far (went_on file c.groups.groups.next c.advance.new.self c.in-Ok-true.field-0 c.in-Ok-true.field-0-test goes) c.clear.ensures.items c.in-Ok.ensures (omega (arith, c.number_after-count.ensures, c.len.ensures, c.add_group.new.into.ok.0));
}

pub groups-smaller : goal.groups-smaller
groups-smaller g c = omega (arith, c.in-Ok-true.ensures.on c.in-Ok-true.field-0-test, c.advance.ensures.room c.groups.invariant.fits)

pub returns-in-Ok-false-clause-counted : goal.returns-in-Ok-false-clause-counted
returns-in-Ok-false-clause-counted g c R0 told covers before =
    let meaning = g.D.Disk.meaning in
    let start = c.args.disk.now in
    let file = (meaning.files start).log_bytes in
    let later = (meaning.files c.groups.disk).log_bytes in
    let look = c.groups.invariant.look in
    let so_far = c.groups.invariant.run R0 told covers before in
    let same : later ≡ file = ap (λ (f : Files). f.log_bytes) (look.files told) in
    let goes = advanced file later c.groups.groups.next c.groups.groups c.advance.new.self (Ok c.in-Ok-false.field-0) same so_far.covers (c.in-Ok-false.ensures.goes (look.told.1 told)) in
    count_shut file c.args.groups.now.next c.groups.groups.next c.advance.new.self.next R0 so_far.R c.groups.count so_far.walked (was_shut file c.groups.groups.next c.advance.new.self c.in-Ok-false.field-0 c.in-Ok-false.field-0-test goes) so_far.count_is

pub returns-in-Err-clause-counted : goal.returns-in-Err-clause-counted
returns-in-Err-clause-counted g c R0 told covers before =
    let meaning = g.D.Disk.meaning in
    let start = c.args.disk.now in
    let file = (meaning.files start).log_bytes in
    let later = (meaning.files c.groups.disk).log_bytes in
    let look = c.groups.invariant.look in
    let so_far = c.groups.invariant.run R0 told covers before in
    let same : later ≡ file = ap (λ (f : Files). f.log_bytes) (look.files told) in
    let goes = advanced file later c.groups.groups.next c.groups.groups c.advance.new.self (Err c.in-Err.fault) same so_far.covers (c.in-Err.ensures.goes (look.told.1 told)) in
    frame_breaks file c.args.groups.now.next c.groups.groups.next c.advance.new.self R0 so_far.R c.in-Err.fault c.of_frame.result c.of_frame.ensures.same so_far.walked goes

pub returns-in-Err-add_group-clause-counted : goal.returns-in-Err-add_group-clause-counted
returns-in-Err-add_group-clause-counted g c R0 told covers before =
    let meaning = g.D.Disk.meaning in
    let start = c.args.disk.now in
    let file = (meaning.files start).log_bytes in
    let later = (meaning.files c.groups.disk).log_bytes in
    let look = c.groups.invariant.look in
    let so_far = c.groups.invariant.run R0 told covers before in
    let same : later ≡ file = ap (λ (f : Files). f.log_bytes) (look.files told) in
    let goes = advanced file later c.groups.groups.next c.groups.groups c.advance.new.self (Ok c.in-Ok-true.field-0) same so_far.covers (c.in-Ok-true.ensures.goes (look.told.1 told)) in
    payload_breaks file c.args.groups.now.next c.groups.groups.next c.advance.new.self R0 so_far.R (reverse c.clear.new.self.items) (reverse c.add_group.new.into.items) c.in-Err-add_group.fault so_far.walked (went_on file c.groups.groups.next c.advance.new.self c.in-Ok-true.field-0 c.in-Ok-true.field-0-test goes) c.in-Err-add_group.ensures
