use Rattle.std.proofs.Common.{◌∙◌, refl, arith, ℕ, List}
use Rattle.disk_model.specs.declared.disk.File.TheVariants.{Data}
use Rattle.disk_model.proofs.Lemmas.{run_synced, run_settles}
use Rattle.page_store.specs.Types.{InPlace}
use Rattle.page_store.proofs.Changes.{Stays}
use Rattle.page_store.proofs.Stages.{BesideBatch}
use Rattle.page_store.proofs.Moves.{places_started, place_write, place_more, places_leave, places_settle}
use Rattle.page_store.proofs.Logs.{log_started, log_then, log_written, log_synced}
use Rattle.page_store.proofs.writing.write_places.Goals as goal

pub returns-in_err-write_at-clause-any_moment : goal.returns-in_err-write_at-clause-any_moment
returns-in_err-write_at-clause-any_moment g c shape pages settled opened =
    let run = c.loop-page.invariant.run shape pages settled opened in
    place_write g.D.Disk.meaning c.args.disk.now c.args.batch.now shape pages opened c.loop-page.disk c.write_at.new.self c.loop-page.page-index c.page-item.result c.offset.result c.as_slice.result.now c.loop-page-test.true c.page-item.is c.offset.ensures c.as_slice.ensures.bytes run c.write_at.ensures.time c.write_at.ensures.crash

pub loop-page-init : goal.loop-page-init
loop-page-init g c = record {
  later = omega arith;
  told = (λ is. is, λ is. is);
  log = log_started g.D.Disk.meaning c.args.disk.now;
  reads = refl;
  run = λ shape pages settled opened. places_started g.D.Disk.meaning c.args.disk.now c.args.batch.now settled;
}

pub loop-page-preserved : goal.loop-page-preserved
loop-page-preserved g c =
    let write = c.write_at.ensures in
    let so_far = c.loop-page.invariant in
    record {
      later = omega (arith, so_far.later, write.cause.later);
      log = log_then g.D.Disk.meaning c.args.disk.now c.loop-page.disk c.write_at.new.self (c.loop-page.invariant.log) (log_written g.D.Disk.meaning c.loop-page.disk c.write_at.new.self _ _ c.write_at.ensures.time c.write_at.ensures.told c.write_at.ensures.crash c.write_at.ensures.torn);
      told = (λ is. so_far.told.0 (write.told.0 is), λ is. write.told.1 (so_far.told.1 is));
      reads = write.reads ∙ so_far.reads;
      run = λ shape pages settled opened. place_more g.D.Disk.meaning c.args.disk.now c.args.batch.now shape pages opened c.loop-page.disk c.write_at.new.self c.loop-page.page-index c.page-item.result c.offset.result c.as_slice.result.now c.loop-page-test.true c.page-item.is c.offset.ensures c.as_slice.ensures.bytes (so_far.run shape pages settled opened) write.time write.crash write.told.1 c.in_ok-write_at.ensures.written;
    }

pub returns-clause-any_moment : goal.returns-clause-any_moment
returns-clause-any_moment g c shape pages settled opened =
    let meaning = g.D.Disk.meaning in
    let start = c.args.disk.now in
    let batch = c.args.batch.now in
    let E : List ℕ → Type 0 = Stays (BesideBatch batch) (meaning.files start).data_bytes in
    let sync = c.sync.ensures in
    places_leave meaning start batch shape pages opened c.sync.new.self (run_synced meaning start Data E c.loop-page.disk c.sync.new.self (InPlace c.loop-page.page-index batch) c.sync.result (c.loop-page.invariant.run shape pages settled opened) sync.durable sync.time sync.crash)

pub returns-clause-done : goal.returns-clause-done
returns-clause-done g c shape pages settled opened =
    let meaning = g.D.Disk.meaning in
    let start = c.args.disk.now in
    let batch = c.args.batch.now in
    let E : List ℕ → Type 0 = Stays (BesideBatch batch) (meaning.files start).data_bytes in
    let sync = c.sync.ensures in
    places_settle meaning start batch shape pages opened c.sync.new.self c.loop-page.page-index c.sync.result c.loop-page-test.false
    (run_settles meaning start Data E c.loop-page.disk c.sync.new.self (InPlace c.loop-page.page-index batch) c.sync.result (c.loop-page.invariant.run shape pages settled opened) sync.durable sync.told.1 sync.same)

pub returns-in_err-write_at-clause-log : goal.returns-in_err-write_at-clause-log
returns-in_err-write_at-clause-log g c = log_then g.D.Disk.meaning c.args.disk.now c.loop-page.disk c.write_at.new.self (c.loop-page.invariant.log) (log_written g.D.Disk.meaning c.loop-page.disk c.write_at.new.self _ _ c.write_at.ensures.time c.write_at.ensures.told c.write_at.ensures.crash c.write_at.ensures.torn)

pub returns-clause-log : goal.returns-clause-log
returns-clause-log g c = log_then g.D.Disk.meaning c.args.disk.now c.loop-page.disk c.sync.new.self (c.loop-page.invariant.log) (log_synced g.D.Disk.meaning c.loop-page.disk c.sync.new.self c.sync.result c.sync.ensures.time c.sync.ensures.told c.sync.ensures.durable c.sync.ensures.crash c.sync.ensures.same)
