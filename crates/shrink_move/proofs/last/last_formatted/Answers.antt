use Rattle.std.proofs.Common.{Bool, ◌+◌, Ok, Err, arith, refl}
use Rattle.store_core.proofs.Lookups.{looked_on, looked_ok, looked_err}
use Rattle.shrink_move.proofs.Takers.{passed_known, passed_more, passed_unspent, passed_when}
use Rattle.shrink_move.proofs.Lasts.{NoneFormatted, count_of, last_found, last_zero, none_from, none_more}
use Rattle.shrink_move.proofs.last.last_formatted.Goals as goal

pub loop-passed-init : goal.loop-passed-init
loop-passed-init g c = passed_when g.D.Disk.meaning c.args.store.now c.args.ground.now (NoneFormatted c.args.ground.now c.data_count-count.result 0) c.requires.unspent (λ R o k. none_from c.args.ground.now c.data_count-count.result R o (count_of g.D.Disk.meaning c.args.store.now R o c.data_count-count.result c.args.ground.now c.data_count-count.ensures.value k))

pub returns-in-Err-clause-looked : goal.returns-in-Err-clause-looked
returns-in-Err-clause-looked g c = looked_on g.D.Disk.meaning c.args.store.now c.loop-passed.store c.is_formatted.new.store tt (Err c.in-Err.fault) c.loop-passed.invariant.looked (looked_err {A = Bool} g.D.Disk.meaning c.loop-passed.store c.is_formatted.new.store c.in-Err.fault c.in-Err.ensures.looked)

pub returns-in-Err-clause-sound : goal.returns-in-Err-clause-sound
returns-in-Err-clause-sound g c = λ R o k.
    let P = NoneFormatted c.args.ground.now c.data_count-count.result c.loop-passed.passed in
    let m = c.loop-passed-test.true in
    let count = count_of g.D.Disk.meaning c.args.store.now R o c.data_count-count.result c.args.ground.now c.data_count-count.ensures.value k in
    c.in-Err.ensures.sound R o (passed_known g.D.Disk.meaning c.args.store.now c.loop-passed.store R o c.args.ground.now P c.loop-passed.invariant k) (omega (arith, count, m)) (passed_unspent g.D.Disk.meaning c.args.store.now c.loop-passed.store c.args.ground.now P c.loop-passed.invariant)

pub returns-in-Ok-true-clause-looked : goal.returns-in-Ok-true-clause-looked
returns-in-Ok-true-clause-looked g c = looked_ok g.D.Disk.meaning c.args.store.now c.is_formatted.new.store c.in-Ok-true.field-0 _ (looked_on g.D.Disk.meaning c.args.store.now c.loop-passed.store c.is_formatted.new.store tt (Ok c.in-Ok-true.field-0) c.loop-passed.invariant.looked c.in-Ok-true.ensures.looked)

pub returns-in-Ok-true-clause-says : goal.returns-in-Ok-true-clause-says
returns-in-Ok-true-clause-says g c = λ R o k. last_found c.args.ground.now c.data_count-count.result c.loop-passed.passed _ c.in-Ok-true.field-0 R o c.loop-passed-test.true refl c.in-Ok-true.field-0-test
    (c.in-Ok-true.ensures.says R o (passed_known g.D.Disk.meaning c.args.store.now c.loop-passed.store R o c.args.ground.now (NoneFormatted c.args.ground.now c.data_count-count.result c.loop-passed.passed) c.loop-passed.invariant k)) (c.loop-passed.invariant.holds R o k)

pub returns-clause-looked : goal.returns-clause-looked
returns-clause-looked g c = looked_ok g.D.Disk.meaning c.args.store.now c.loop-passed.store tt _ c.loop-passed.invariant.looked

pub returns-clause-says : goal.returns-clause-says
returns-clause-says g c = λ R o k. last_zero c.args.ground.now c.data_count-count.result c.loop-passed.passed R o c.loop-passed-test.false (c.loop-passed.invariant.holds R o k)

pub loop-passed-preserved : goal.loop-passed-preserved
loop-passed-preserved g c = passed_more g.D.Disk.meaning c.args.store.now c.loop-passed.store c.is_formatted.new.store c.args.ground.now (NoneFormatted c.args.ground.now c.data_count-count.result c.loop-passed.passed) (NoneFormatted c.args.ground.now c.data_count-count.result (c.loop-passed.passed + 1)) c.in-Ok-false.field-0 c.loop-passed.invariant c.in-Ok-false.ensures.looked
    (λ R o k h. none_more c.args.ground.now c.data_count-count.result c.loop-passed.passed _ c.in-Ok-false.field-0 R o c.loop-passed-test.true refl c.in-Ok-false.field-0-test (c.in-Ok-false.ensures.says R o k) h)
