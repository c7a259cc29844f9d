use Rattle.std.proofs.Common.{◌≡◌, ◌≤◌, ℕ, List, length, None}
use Rattle.buffer_pool.specs.Frames.{dirty_count, frame_at, Keeps, SameDirty}
use Rattle.buffer_pool.specs.Recent.{Gives}
use Rattle.buffer_pool.proofs.cache.make_room.Given as goal

abbrev pub invariant-loop-frames : goal.invariant-loop-frames
invariant-loop-frames l = record {
  cap : l.frames.cap ≡ l.initial.frames.cap;
  keeps : (pages : ℕ → List ℕ) → Keeps pages l.initial.frames.entries l.frames.entries;
  same_dirty : SameDirty l.initial.frames.entries l.frames.entries;
  dirty : dirty_count l.frames.entries ≡ dirty_count l.initial.frames.entries;
  absent : (d : ℕ) → frame_at l.initial.frames.entries d ≡ None → frame_at l.frames.entries d ≡ None;
  gives : Gives l.more l.initial.frames.cap l.initial.frames.entries l.frames.entries;
  same : length l.initial.frames.entries ≤ l.most → l.frames.entries ≡ l.initial.frames.entries;
}

abbrev pub decreases-loop-frames : goal.decreases-loop-frames
decreases-loop-frames l = length l.frames.entries
