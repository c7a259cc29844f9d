use Rattle.std.proofs.Common.{length, arith, sym, true≢false}
use Rattle.redo_model.specs.Model.{extents_of, index_of}
use Rattle.space_usage.proofs.Fixes.{known_header, not_below}
use Rattle.space_usage.proofs.finding.told_index.Goals as goal

pub returns-in-Err : goal.returns-in-Err
returns-in-Err g c = λ R o k.
    not_below (index_of c.args.shape.now (extents_of R o) c.args.dba) (length (extents_of R o))
    (λ l. true≢false (sym (c.in-Err.ensures.right R o (known_header g.D.Disk.meaning R o c.args.store.now c.args.shape.now c.args.segment.now c.frame.result.now k (c.frame.ensures R k.holds.list)) l)))

pub returns-then-index-segment : goal.returns-then-index-segment
returns-then-index-segment g c = λ R o k.
    let is = c.in-Ok.ensures.says R o (known_header g.D.Disk.meaning R o c.args.store.now c.args.shape.now c.args.segment.now c.frame.result.now k (c.frame.ensures R k.holds.list)) in
    let all = k.segment_is.extents in
    let less = c.if-index-segment.true in
    (is, omega (arith, all, less))

pub returns-else-index-segment : goal.returns-else-index-segment
returns-else-index-segment g c = λ R o k.
    let is = c.in-Ok.ensures.says R o (known_header g.D.Disk.meaning R o c.args.store.now c.args.shape.now c.args.segment.now c.frame.result.now k (c.frame.ensures R k.holds.list)) in
    let all = k.segment_is.extents in
    let more = c.if-index-segment.false in
    omega (arith, is, all, more)
