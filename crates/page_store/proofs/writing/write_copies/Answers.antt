use Rattle.std.proofs.Common.{◌*◌, ◌+◌, ◌∙◌, refl, ap, arith, ℕ, List, drop}
use Rattle.page_store.specs.Types.{COPIES_AT}
use Rattle.seg_words.specs.Types.{BLOCK_SIZE}
use Rattle.disk_model.specs.declared.disk.File.TheVariants.{Data}
use Rattle.disk_model.proofs.Lemmas.{run_synced, run_settles}
use Rattle.page_store.proofs.Changes.{Stays}
use Rattle.page_store.proofs.Stages.{BesideArea}
use Rattle.page_store.proofs.Moves.{Copying, copies_started, shut_leave, head_write, head_more, copy_write, copy_more, copies_settle}
use Rattle.page_store.proofs.Logs.{log_then, log_written, log_synced}
use Rattle.page_store.proofs.writing.write_copies.Goals as goal

pub returns-in_err-write_at-clause-any_moment : goal.returns-in_err-write_at-clause-any_moment
returns-in_err-write_at-clause-any_moment g c shape pages store places =
    let meaning = g.D.Disk.meaning in
    let start = c.args.disk.now in
    let batch = c.args.batch.now in
    let head = c.behind_gate.ensures.bytes ∙ ap (λ (l : List ℕ). drop 1 l) c.head_bytes-head.ensures in
    head_write meaning start batch shape pages store start c.write_at.new.self c.behind_gate.result.now head c.behind_gate.ensures.long (copies_started meaning start batch shape pages store) c.write_at.ensures.time c.write_at.ensures.crash

pub loop-i-init : goal.loop-i-init
loop-i-init g c =
    let meaning = g.D.Disk.meaning in
    let start = c.args.disk.now in
    let batch = c.args.batch.now in
    let write = c.write_at.ensures in
    let head = c.behind_gate.ensures.bytes ∙ ap (λ (l : List ℕ). drop 1 l) c.head_bytes-head.ensures in
    record {
      later = write.cause.later;
      told = (write.told.0, write.told.1);
      log = log_written g.D.Disk.meaning c.args.disk.now c.write_at.new.self _ _ c.write_at.ensures.time c.write_at.ensures.told c.write_at.ensures.crash c.write_at.ensures.torn;
      reads = write.reads;
      run = λ shape pages store. head_more meaning start batch shape pages store start c.write_at.new.self c.behind_gate.result.now head c.behind_gate.ensures.long (copies_started meaning start batch shape pages store) write.time write.crash write.told.1 c.in_ok-write_at.ensures.written;
    }

pub returns-in_err-write_at-2-clause-any_moment : goal.returns-in_err-write_at-2-clause-any_moment
returns-in_err-write_at-2-clause-any_moment g c shape pages store places =
    let write = c.write_at-in-loop-i.ensures in
    copy_write g.D.Disk.meaning c.args.disk.now c.args.batch.now shape pages store c.loop-i.disk c.write_at-in-loop-i.new.self c.loop-i.i c.index-batch-i.result (COPIES_AT + BLOCK_SIZE * c.loop-i.i) c.as_slice.result.now c.loop-i-test.true c.requires c.index-batch-i.is refl c.as_slice.ensures.bytes c.as_slice.ensures.whole (c.loop-i.invariant.run shape pages store) write.time write.crash

pub loop-i-preserved : goal.loop-i-preserved
loop-i-preserved g c =
    let write = c.write_at-in-loop-i.ensures in
    let so_far = c.loop-i.invariant in
    record {
      later = omega (arith, so_far.later, write.cause.later);
      log = log_then g.D.Disk.meaning c.args.disk.now c.loop-i.disk c.write_at-in-loop-i.new.self (c.loop-i.invariant.log) (log_written g.D.Disk.meaning c.loop-i.disk c.write_at-in-loop-i.new.self _ _ c.write_at-in-loop-i.ensures.time c.write_at-in-loop-i.ensures.told c.write_at-in-loop-i.ensures.crash c.write_at-in-loop-i.ensures.torn);
      told = (λ is. so_far.told.0 (write.told.0 is), λ is. write.told.1 (so_far.told.1 is));
      reads = write.reads ∙ so_far.reads;
      run = λ shape pages store. copy_more g.D.Disk.meaning c.args.disk.now c.args.batch.now shape pages store c.loop-i.disk c.write_at-in-loop-i.new.self c.loop-i.i c.index-batch-i.result (COPIES_AT + BLOCK_SIZE * c.loop-i.i) c.as_slice.result.now c.loop-i-test.true c.requires c.index-batch-i.is refl c.as_slice.ensures.bytes c.as_slice.ensures.whole (so_far.run shape pages store) write.time write.crash write.told.1 c.in_ok-write_at-2.ensures.written;
    }

pub returns-clause-any_moment : goal.returns-clause-any_moment
returns-clause-any_moment g c shape pages store places =
    let meaning = g.D.Disk.meaning in
    let start = c.args.disk.now in
    let batch = c.args.batch.now in
    let A : List ℕ → Type 0 = Stays BesideArea (meaning.files start).data_bytes in
    let sync = c.sync.ensures in
    shut_leave meaning start batch shape pages store c.sync.new.self (run_synced meaning start Data A c.loop-i.disk c.sync.new.self (Copying batch c.loop-i.i) c.sync.result (c.loop-i.invariant.run shape pages store) sync.durable sync.time sync.crash)

pub returns-clause-done : goal.returns-clause-done
returns-clause-done g c shape pages store places =
    let meaning = g.D.Disk.meaning in
    let start = c.args.disk.now in
    let batch = c.args.batch.now in
    let A : List ℕ → Type 0 = Stays BesideArea (meaning.files start).data_bytes in
    let sync = c.sync.ensures in
    copies_settle meaning start batch shape pages store c.sync.new.self c.loop-i.i c.sync.result places c.loop-i-test.false
    (run_settles meaning start Data A c.loop-i.disk c.sync.new.self (Copying batch c.loop-i.i) c.sync.result (c.loop-i.invariant.run shape pages store) sync.durable sync.told.1 sync.same)

pub returns-in_err-write_at-clause-log : goal.returns-in_err-write_at-clause-log
returns-in_err-write_at-clause-log g c = log_written g.D.Disk.meaning c.args.disk.now c.write_at.new.self _ _ c.write_at.ensures.time c.write_at.ensures.told c.write_at.ensures.crash c.write_at.ensures.torn

pub returns-in_err-write_at-2-clause-log : goal.returns-in_err-write_at-2-clause-log
returns-in_err-write_at-2-clause-log g c = log_then g.D.Disk.meaning c.args.disk.now c.loop-i.disk c.write_at-in-loop-i.new.self (c.loop-i.invariant.log) (log_written g.D.Disk.meaning c.loop-i.disk c.write_at-in-loop-i.new.self _ _ c.write_at-in-loop-i.ensures.time c.write_at-in-loop-i.ensures.told c.write_at-in-loop-i.ensures.crash c.write_at-in-loop-i.ensures.torn)

pub returns-clause-log : goal.returns-clause-log
returns-clause-log g c = log_then g.D.Disk.meaning c.args.disk.now c.loop-i.disk c.sync.new.self (c.loop-i.invariant.log) (log_synced g.D.Disk.meaning c.loop-i.disk c.sync.new.self c.sync.result c.sync.ensures.time c.sync.ensures.told c.sync.ensures.durable c.sync.ensures.crash c.sync.ensures.same)
