use Rattle.std.proofs.Common.{arith, refl, sym, subst, ◌∙◌, ℕ}
use Rattle.buffer_pool.specs.Batches.{AreDirtyUpTo}
use Rattle.store_pages.proofs.Refusing.{names_item}
use Rattle.disk_model.proofs.Going.{rose_later}
use Rattle.page_store.proofs.Logs.{log_then}
use Rattle.store_pages.proofs.Loops.{all_leave, all_redone, next_redone, none_redone, stopped_leaves, stopped_why}
use Rattle.store_pages.proofs.opening.redo_all.Goals as goal

pub loop-i-init : goal.loop-i-init
loop-i-init g c = record { so = none_redone g.D.Disk.meaning c.args.disk.now c.args.records.now c.args.first c.args.pool.now; same = refl; up = λ up. up }

pub number_of-lsn-requires : goal.number_of-lsn-requires
number_of-lsn-requires g c = omega (arith, c.requires.numbers, c.loop-i-test.true)

pub redo-requires : goal.redo-requires
redo-requires g c = c.loop-i.invariant.same ∙ c.requires.shape ∙ sym c.loop-i.invariant.so.shape

pub loop-i-preserved : goal.loop-i-preserved
loop-i-preserved g c =
    let meaning = g.D.Disk.meaning in
    let d0 = c.args.disk.now in let xs = c.args.records.now in let m = c.args.first in let p0 = c.args.pool.now in
    let d1 = c.loop-i.disk in let i = c.loop-i.i in let p1 = c.loop-i.pool in let so = c.loop-i.invariant.so in
    record {
      so = next_redone meaning d0 xs m p0 d1 i p1 so c.index-records-i.result c.number_of-lsn.result c.last_of-last.result c.index-records-i.is c.loop-i-test.true c.number_of-lsn.ensures c.last_of-last.ensures c.redo.new.disk c.redo.new.pool c.redo.ensures.shape c.redo.ensures.cause.later c.redo.ensures.told c.redo.ensures.log c.redo.ensures.reads c.in-Ok.ensures.done;
      same = c.redo.ensures.same ∙ c.loop-i.invariant.same;
      up = λ up. subst (λ (n : ℕ). AreDirtyUpTo n c.redo.new.pool.held) c.last_of-last.ensures
          (c.in-Ok.ensures.up (subst (λ (n : ℕ). AreDirtyUpTo n p1.held) (sym c.last_of-last.ensures) (c.loop-i.invariant.up up)) (omega (arith, c.number_of-lsn.ensures, c.last_of-last.ensures, c.loop-i-test.true)));
    }

pub returns-in-Err-clause-any_moment : goal.returns-in-Err-clause-any_moment
returns-in-Err-clause-any_moment g c =
    let meaning = g.D.Disk.meaning in
    let d0 = c.args.disk.now in let xs = c.args.records.now in let m = c.args.first in let p0 = c.args.pool.now in
    let d1 = c.loop-i.disk in let i = c.loop-i.i in let p1 = c.loop-i.pool in let so = c.loop-i.invariant.so in
    stopped_leaves meaning d0 xs m p0 d1 i p1 so c.index-records-i.result c.number_of-lsn.result c.last_of-last.result c.index-records-i.is c.loop-i-test.true c.number_of-lsn.ensures c.last_of-last.ensures c.redo.new.disk c.redo.ensures.any_moment

pub returns-in-Err-clause-why : goal.returns-in-Err-clause-why
returns-in-Err-clause-why g c =
    let meaning = g.D.Disk.meaning in
    let d0 = c.args.disk.now in let xs = c.args.records.now in let m = c.args.first in let p0 = c.args.pool.now in
    let d1 = c.loop-i.disk in let i = c.loop-i.i in let p1 = c.loop-i.pool in let so = c.loop-i.invariant.so in
    stopped_why meaning d0 xs m p0 d1 i p1 so c.index-records-i.result c.number_of-lsn.result c.last_of-last.result c.index-records-i.is c.loop-i-test.true c.number_of-lsn.ensures c.last_of-last.ensures c.in-Err.fault c.in-Err.ensures.why

pub returns-in-Err-clause-shape : goal.returns-in-Err-clause-shape
returns-in-Err-clause-shape g c = c.redo.ensures.shape ∙ c.loop-i.invariant.so.shape

pub returns-in-Err-clause-same : goal.returns-in-Err-clause-same
returns-in-Err-clause-same g c = c.redo.ensures.same ∙ c.loop-i.invariant.same

pub returns-in-Err-clause-cause : goal.returns-in-Err-clause-cause
returns-in-Err-clause-cause g c = record {
  later = omega (arith, c.loop-i.invariant.so.faults, c.redo.ensures.cause.later);
  rose = λ e. rose_later _ _ _ c.loop-i.invariant.so.faults (c.in-Err.ensures.cause.rose e);
}

pub returns-in-Err-clause-told : goal.returns-in-Err-clause-told
returns-in-Err-clause-told g c = (λ x. c.loop-i.invariant.so.told.0 (c.redo.ensures.told.0 x), λ x. c.redo.ensures.told.1 (c.loop-i.invariant.so.told.1 x))

pub returns-in-Err-clause-reads : goal.returns-in-Err-clause-reads
returns-in-Err-clause-reads g c = λ x. c.redo.ensures.reads (c.loop-i.invariant.so.told.1 x) ∙ c.loop-i.invariant.so.reads x

pub returns-clause-any_moment : goal.returns-clause-any_moment
returns-clause-any_moment g c = all_leave g.D.Disk.meaning c.args.disk.now c.args.records.now c.args.first c.args.pool.now c.loop-i.disk c.loop-i.i c.loop-i.pool c.loop-i.invariant.so c.loop-i-test.false

pub returns-clause-done : goal.returns-clause-done
returns-clause-done g c = all_redone g.D.Disk.meaning c.args.disk.now c.args.records.now c.args.first c.args.pool.now c.loop-i.disk c.loop-i.i c.loop-i.pool c.loop-i.invariant.so c.loop-i-test.false

pub returns-clause-shape : goal.returns-clause-shape
returns-clause-shape g c = c.loop-i.invariant.so.shape

pub returns-clause-same : goal.returns-clause-same
returns-clause-same g c = c.loop-i.invariant.same

pub returns-clause-cause : goal.returns-clause-cause
returns-clause-cause g c = record { later = c.loop-i.invariant.so.faults; rose = λ e. cc e }

pub returns-clause-told : goal.returns-clause-told
returns-clause-told g c = c.loop-i.invariant.so.told

pub returns-clause-reads : goal.returns-clause-reads
returns-clause-reads g c = c.loop-i.invariant.so.reads

pub returns-in-Err-clause-log : goal.returns-in-Err-clause-log
returns-in-Err-clause-log g c = log_then g.D.Disk.meaning c.args.disk.now c.loop-i.disk c.redo.new.disk c.loop-i.invariant.so.log c.redo.ensures.log

pub returns-clause-log : goal.returns-clause-log
returns-clause-log g c = c.loop-i.invariant.so.log

pub returns-in-Err-clause-names : goal.returns-in-Err-clause-names
returns-in-Err-clause-names g c = λ up.
    let p1 = c.loop-i.pool in
    names_item c.args.pool.now.shape p1.shape c.args.records.now c.loop-i.i c.index-records-i.result c.in-Err.fault c.loop-i.invariant.so.shape c.index-records-i.is c.loop-i-test.true
    (c.in-Err.ensures.names (subst (λ (n : ℕ). AreDirtyUpTo n p1.held) (sym c.last_of-last.ensures) (c.loop-i.invariant.up up)))
