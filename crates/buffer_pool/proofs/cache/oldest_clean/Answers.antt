use Rattle.buffer_pool.proofs.Recency.{scanned_oldest}
use Rattle.buffer_pool.proofs.Scans.{scanned_more, scanned_place}
use Rattle.buffer_pool.proofs.cache.oldest_clean.Goals as goal

pub returns-then-not-frame-clause-clean : goal.returns-then-not-frame-clause-clean
returns-then-not-frame-clause-clean c =
    rw (scanned_place c.args.frames.now.entries c.loop-block.block-iterator.iter c.next.new.self.iter (c.in-Some.field-0-0.now, c.in-Some.frame.now) c.loop-block.invariant c.in-Some.ensures.steps c.len-count.ensures.valid.0) c.if-not-frame.true

pub loop-block-preserved : goal.loop-block-preserved
loop-block-preserved c =
    scanned_more c.args.frames.now.entries c.loop-block.block-iterator.iter c.next.new.self.iter (c.in-Some.field-0-0.now, c.in-Some.frame.now) c.loop-block.invariant c.in-Some.ensures.steps c.if-not-frame.false

pub returns-then-not-frame-clause-oldest : goal.returns-then-not-frame-clause-oldest
returns-then-not-frame-clause-oldest c =
    scanned_oldest c.args.frames.now.entries c.loop-block.block-iterator.iter c.next.new.self.iter (c.in-Some.field-0-0.now, c.in-Some.frame.now) c.loop-block.invariant c.in-Some.ensures.steps c.len-count.ensures.valid.0 c.if-not-frame.true
