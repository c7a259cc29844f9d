use Rattle.std.proofs.Common.{arith}
use Rattle.std.proofs.lemmas.Grind.{common_steps}
use Rattle.buffer_pool.proofs.Recency.{gives_more}
use Rattle.buffer_pool.proofs.Drops.{keeps_then, dirty_then}
use Rattle.buffer_pool.proofs.cache.make_room.Goals as goal

pub loop-frames-preserved : goal.loop-frames-preserved
loop-frames-preserved c = record {
  cap = grind (arith, common_steps);
  keeps = λ pages. keeps_then pages c.args.frames.now.entries c.loop-frames.frames.entries c.drop_clean.new.frames.entries (c.loop-frames.invariant.keeps pages) (c.drop_clean.ensures.keeps pages);
  same_dirty = dirty_then c.args.frames.now.entries c.loop-frames.frames.entries c.drop_clean.new.frames.entries c.loop-frames.invariant.same_dirty c.drop_clean.ensures.same_dirty;
  dirty = grind (arith, common_steps);
  absent = λ k h. c.drop_clean.ensures.absent k (c.loop-frames.invariant.absent k h);
  gives = gives_more c.args.more c.args.frames.now.cap c.args.frames.now.entries c.loop-frames.frames.entries c.drop_clean.new.frames.entries c.loop-frames.invariant.gives (grind (arith, common_steps)) c.drop_clean.ensures.length c.drop_clean.ensures.oldest;
  same = λ h. grind (arith, common_steps, c.loop-frames.invariant.same h);
}
