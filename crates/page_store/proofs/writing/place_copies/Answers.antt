use Rattle.std.proofs.Common.{◌∙◌, refl, ap, arith, ℕ, List, length, Result, Ok}
use Rattle.disk_model.specs.Types.{Files}
use Rattle.disk_model.specs.declared.disk.File.TheVariants.{Data}
use Rattle.disk_model.proofs.Lemmas.{run_synced, run_settles}
use Rattle.page_store.specs.Types.{InPlace}
use Rattle.page_store.proofs.Changes.{Stays}
use Rattle.page_store.proofs.Stages.{BesideBatch, as_many}
use Rattle.page_store.proofs.Moves.{cut_short, places_started, looked_leave, all_there, place_copy, more_copies, places_leave, places_settle}
use Rattle.page_store.proofs.Logs.{log_started, log_looked, log_then, log_written, log_synced}
use Rattle.page_store.proofs.writing.place_copies.Goals as goal

pub returns-in_err-read_page-clause-any_moment : goal.returns-in_err-read_page-clause-any_moment
returns-in_err-read_page-clause-any_moment g c shape pages batch settled opened named =
    looked_leave g.D.Disk.meaning c.args.disk.now batch shape pages opened c.args.blocks.now named c.loop-i.i c.loop-i-test.true c.loop-i.disk c.read_page.new.disk (c.loop-i.invariant.run shape pages batch settled opened named) c.read_page.ensures.untouched

pub returns-then-not-branch-clause-any_moment : goal.returns-then-not-branch-clause-any_moment
returns-then-not-branch-clause-any_moment g c shape pages batch settled opened named =
    looked_leave g.D.Disk.meaning c.args.disk.now batch shape pages opened c.args.blocks.now named c.loop-i.i c.loop-i-test.true c.loop-i.disk c.read_page.new.disk (c.loop-i.invariant.run shape pages batch settled opened named) c.read_page.ensures.untouched

pub returns-then-not-branch-clause-done : goal.returns-then-not-branch-clause-done
returns-then-not-branch-clause-done g c shape pages batch settled opened named =
    let run = c.loop-i.invariant.run shape pages batch settled opened named in
    all_there g.D.Disk.meaning c.args.disk.now batch shape pages opened c.args.blocks.now named c.loop-i.i c.loop-i-test.true c.loop-i.disk c.read_page.new.disk run c.read_page.ensures.untouched c.read_page.new.into c.in_ok-read_page.field-0 c.if-not-branch.true (c.in_ok-read_page.ensures.found run.told)

pub returns-then-not-branch-clause-whole : goal.returns-then-not-branch-clause-whole
returns-then-not-branch-clause-whole g c told long =
    let there = c.loop-i.invariant.told.1 told in
    absurd (cut_short (g.D.Disk.meaning.files c.loop-i.disk).data_bytes c.read_page.new.into c.loop-i.i c.in_ok-read_page.field-0 (omega (arith, c.requires, c.loop-i-test.true)) (omega (arith, long, c.loop-i.invariant.grows told)) c.if-not-branch.true (c.in_ok-read_page.ensures.found there))

pub returns-in_err-write_at-clause-any_moment : goal.returns-in_err-write_at-clause-any_moment
returns-in_err-write_at-clause-any_moment g c shape pages batch settled opened named =
    let run = c.loop-i.invariant.run shape pages batch settled opened named in
    place_copy g.D.Disk.meaning c.args.disk.now batch shape pages opened c.args.blocks.now named c.loop-i.i c.loop-i-test.true c.loop-i.disk c.read_page.new.disk run c.read_page.ensures.untouched c.read_page.new.into c.in_ok-read_page.field-0 c.if-not-branch.false (c.in_ok-read_page.ensures.found run.told) c.from.result c.from.ensures c.write_at.new.self c.write_at.ensures.time c.write_at.ensures.crash

pub loop-i-init : goal.loop-i-init
loop-i-init g c = record {
  later = omega arith;
  told = (λ is. is, λ is. is);
  log = log_started g.D.Disk.meaning c.args.disk.now;
  reads = λ _. refl;
  grows = λ _. omega arith;
  run = λ shape pages batch settled opened named. places_started g.D.Disk.meaning c.args.disk.now batch settled;
}

pub loop-i-preserved : goal.loop-i-preserved
loop-i-preserved g c =
    let look = c.read_page.ensures in
    let write = c.write_at.ensures in
    let so_far = c.loop-i.invariant in
    record {
      later = omega (arith, so_far.later, look.cause.later, write.cause.later);
      log = log_then g.D.Disk.meaning c.args.disk.now c.read_page.new.disk c.write_at.new.self (log_then g.D.Disk.meaning c.args.disk.now c.loop-i.disk c.read_page.new.disk (c.loop-i.invariant.log) (log_looked g.D.Disk.meaning c.loop-i.disk c.read_page.new.disk c.read_page.ensures.untouched)) (log_written g.D.Disk.meaning c.read_page.new.disk c.write_at.new.self _ _ c.write_at.ensures.time c.write_at.ensures.told c.write_at.ensures.crash c.write_at.ensures.torn);
      told = (λ is. so_far.told.0 (look.untouched.told.0 (write.told.0 is)), λ is. write.told.1 (look.untouched.told.1 (so_far.told.1 is)));
      reads = λ told. write.reads ∙ look.reads (so_far.told.1 told) ∙ so_far.reads told;
      grows = λ told.
          let there = so_far.told.1 told in
          omega (arith, so_far.grows told, ap (λ (f : Files). length f.data_bytes) (look.untouched.files there), (write.torn (look.untouched.told.1 there)).torn.no_shorter);
      run = λ shape pages batch settled opened named.
          let run = so_far.run shape pages batch settled opened named in
          more_copies g.D.Disk.meaning c.args.disk.now batch shape pages opened c.args.blocks.now named c.loop-i.i c.loop-i-test.true c.loop-i.disk c.read_page.new.disk run look.untouched c.read_page.new.into c.in_ok-read_page.field-0 c.if-not-branch.false (c.in_ok-read_page.ensures.found run.told) c.from.result c.from.ensures c.write_at.new.self write.time write.crash write.told.1 c.in_ok-write_at.ensures.written;
    }

pub returns-in_err-sync-clause-any_moment : goal.returns-in_err-sync-clause-any_moment
returns-in_err-sync-clause-any_moment g c shape pages batch settled opened named =
    let meaning = g.D.Disk.meaning in
    let start = c.args.disk.now in
    let E : List ℕ → Type 0 = Stays (BesideBatch batch) (meaning.files start).data_bytes in
    let sync = c.sync.ensures in
    places_leave meaning start batch shape pages opened c.sync.new.self (run_synced meaning start Data E c.loop-i.disk c.sync.new.self (InPlace c.loop-i.i batch) c.sync.result (c.loop-i.invariant.run shape pages batch settled opened named) sync.durable sync.time sync.crash)

pub returns-clause-any_moment : goal.returns-clause-any_moment
returns-clause-any_moment g c shape pages batch settled opened named =
    let meaning = g.D.Disk.meaning in
    let start = c.args.disk.now in
    let E : List ℕ → Type 0 = Stays (BesideBatch batch) (meaning.files start).data_bytes in
    let sync = c.sync.ensures in
    places_leave meaning start batch shape pages opened c.sync.new.self (run_synced meaning start Data E c.loop-i.disk c.sync.new.self (InPlace c.loop-i.i batch) c.sync.result (c.loop-i.invariant.run shape pages batch settled opened named) sync.durable sync.time sync.crash)

pub returns-clause-done : goal.returns-clause-done
returns-clause-done g c shape pages batch settled opened named =
    let meaning = g.D.Disk.meaning in
    let start = c.args.disk.now in
    let E : List ℕ → Type 0 = Stays (BesideBatch batch) (meaning.files start).data_bytes in
    let sync = c.sync.ensures in
    let done : Result (Unit {0}) (Unit {0}) = Ok tt in
    let many = as_many shape pages batch (meaning.files start).data_bytes opened c.args.blocks.now named in
    places_settle meaning start batch shape pages opened c.sync.new.self c.loop-i.i done (omega (arith, many, c.loop-i-test.false))
    (run_settles meaning start Data E c.loop-i.disk c.sync.new.self (InPlace c.loop-i.i batch) done (c.loop-i.invariant.run shape pages batch settled opened named) c.in_ok-sync.ensures.durable sync.told.1 sync.same)

pub returns-in_err-read_page-clause-log : goal.returns-in_err-read_page-clause-log
returns-in_err-read_page-clause-log g c = log_then g.D.Disk.meaning c.args.disk.now c.loop-i.disk c.read_page.new.disk (c.loop-i.invariant.log) (log_looked g.D.Disk.meaning c.loop-i.disk c.read_page.new.disk c.read_page.ensures.untouched)

pub returns-then-not-branch-clause-log : goal.returns-then-not-branch-clause-log
returns-then-not-branch-clause-log g c = log_then g.D.Disk.meaning c.args.disk.now c.loop-i.disk c.read_page.new.disk (c.loop-i.invariant.log) (log_looked g.D.Disk.meaning c.loop-i.disk c.read_page.new.disk c.read_page.ensures.untouched)

pub returns-in_err-write_at-clause-log : goal.returns-in_err-write_at-clause-log
returns-in_err-write_at-clause-log g c = log_then g.D.Disk.meaning c.args.disk.now c.read_page.new.disk c.write_at.new.self (log_then g.D.Disk.meaning c.args.disk.now c.loop-i.disk c.read_page.new.disk (c.loop-i.invariant.log) (log_looked g.D.Disk.meaning c.loop-i.disk c.read_page.new.disk c.read_page.ensures.untouched)) (log_written g.D.Disk.meaning c.read_page.new.disk c.write_at.new.self _ _ c.write_at.ensures.time c.write_at.ensures.told c.write_at.ensures.crash c.write_at.ensures.torn)

pub returns-in_err-sync-clause-log : goal.returns-in_err-sync-clause-log
returns-in_err-sync-clause-log g c = log_then g.D.Disk.meaning c.args.disk.now c.loop-i.disk c.sync.new.self (c.loop-i.invariant.log) (log_synced g.D.Disk.meaning c.loop-i.disk c.sync.new.self c.sync.result c.sync.ensures.time c.sync.ensures.told c.sync.ensures.durable c.sync.ensures.crash c.sync.ensures.same)

pub returns-clause-log : goal.returns-clause-log
returns-clause-log g c = log_then g.D.Disk.meaning c.args.disk.now c.loop-i.disk c.sync.new.self (c.loop-i.invariant.log) (log_synced g.D.Disk.meaning c.loop-i.disk c.sync.new.self c.sync.result c.sync.ensures.time c.sync.ensures.told c.sync.ensures.durable c.sync.ensures.crash c.sync.ensures.same)
