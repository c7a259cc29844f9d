use Rattle.std.proofs.Common.{Bool}
use Rattle.store_core.proofs.Lookups.{looked_ok, looked_err, looked_same}
use Rattle.shrink_move.proofs.Takers.{taker_row, taker_free, taker_yes, taker_no}
use Rattle.shrink_move.proofs.taking.taker_in.Goals as goal

pub returns-then-block-eq0-clause-looked : goal.returns-then-block-eq0-clause-looked
returns-then-block-eq0-clause-looked g c = looked_same g.D.Disk.meaning c.args.store.now _ c.requires.unspent

pub returns-then-block-eq0-clause-says : goal.returns-then-block-eq0-clause-says
returns-then-block-eq0-clause-says g c = λ R o n k w. taker_free g.D.Disk.meaning c.args.store.now R o n c.args.len c.args.ground.now c.args.block.now k w c.if-block-eq0.true

pub returns-in-Ok-true-clause-looked : goal.returns-in-Ok-true-clause-looked
returns-in-Ok-true-clause-looked g c = looked_ok g.D.Disk.meaning c.args.store.now c.takes.new.store c.in-Ok-true.field-0 _ c.in-Ok-true.ensures.looked

pub returns-in-Ok-true-clause-says : goal.returns-in-Ok-true-clause-says
returns-in-Ok-true-clause-says g c = λ R o n k w. taker_yes g.D.Disk.meaning c.args.store.now R o n c.args.len c.args.ground.now c.args.block.now c.in-Ok-true.field-0 k w c.if-block-eq0.false c.in-Ok-true.field-0-test (c.in-Ok-true.ensures.says R o k (taker_row g.D.Disk.meaning c.args.store.now R o n c.args.ground.now c.args.block.now k w c.if-block-eq0.false))

pub returns-in-Ok-false-clause-looked : goal.returns-in-Ok-false-clause-looked
returns-in-Ok-false-clause-looked g c = looked_ok g.D.Disk.meaning c.args.store.now c.takes.new.store c.in-Ok-false.field-0 _ c.in-Ok-false.ensures.looked

pub returns-in-Ok-false-clause-says : goal.returns-in-Ok-false-clause-says
returns-in-Ok-false-clause-says g c = λ R o n k w. taker_no g.D.Disk.meaning c.args.store.now R o n c.args.len c.args.ground.now c.args.block.now c.in-Ok-false.field-0 k w c.if-block-eq0.false c.in-Ok-false.field-0-test (c.in-Ok-false.ensures.says R o k (taker_row g.D.Disk.meaning c.args.store.now R o n c.args.ground.now c.args.block.now k w c.if-block-eq0.false))

pub returns-in-Err-clause-looked : goal.returns-in-Err-clause-looked
returns-in-Err-clause-looked g c = looked_err {A = Bool} g.D.Disk.meaning c.args.store.now c.takes.new.store c.in-Err.fault c.in-Err.ensures.looked

pub returns-in-Err-clause-sound : goal.returns-in-Err-clause-sound
returns-in-Err-clause-sound g c = λ R o n k w. c.in-Err.ensures.sound R o k (taker_row g.D.Disk.meaning c.args.store.now R o n c.args.ground.now c.args.block.now k w c.if-block-eq0.false) c.requires.unspent
