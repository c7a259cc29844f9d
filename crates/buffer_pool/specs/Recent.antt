-- Which frames are given away. Frames stand in the order of their last use, the most recently used first; that of the
-- transaction table stands in front of the others and is never given away.
use Rattle.std.specs.Prelude.{◌≡◌, ℕ, zero, suc, ◌+◌, ◌≤◌, Bool, false, not, ◌||◌, nat_eq, cond, List, [], ◌∷◌, length, None, IsSome}
use Rattle.lru.specs.LruCache.{promoted}
use Rattle.seg_words.specs.Types.{TXN_TABLE_BLOCK}
use Rattle.page_set.specs.declared.page.Page.{Page}
use Rattle.buffer_pool.specs.declared.frame.Frame.{Frame}
use Rattle.buffer_pool.specs.declared.frame.TheConstants.{FRAMES}
use Rattle.buffer_pool.specs.Frames.{frame_at, clean_frame}

-- one of them is clean
abbrev pub has_clean : List (ℕ × Frame) → Bool
has_clean [] = false
has_clean (e ∷ es) = not e.1.dirty || has_clean es

-- without the least recently used clean frame
abbrev pub without_oldest : List (ℕ × Frame) → List (ℕ × Frame)
without_oldest [] = []
without_oldest (e ∷ es) = cond (has_clean es) (e ∷ without_oldest es) (cond e.1.dirty (e ∷ es) es)

-- without so many clean frames, the least recently used first
abbrev pub without_clean : ℕ → List (ℕ × Frame) → List (ℕ × Frame)
without_clean zero es = es
without_clean (suc n) es = without_oldest (without_clean n es)

-- The least recently used clean frames are given away, and no more of them than must, so that `more` frames fit in `cap`.
pub record Gives (more cap : ℕ) (old new : List (ℕ × Frame)) : Type 0 where
  pub gone : ℕ
  pub left : new ≡ without_clean gone old
  pub count : length new + gone ≡ length old
  pub must : 1 ≤ gone → cap ≤ length new + more

-- block d has a frame in front of those that are left
pub record Brought (cap d : ℕ) (old new : List (ℕ × Frame)) : Type 0 where
  pub kept : List (ℕ × Frame)
  pub page : Page
  pub gives : Gives 1 cap old kept
  pub front : new ≡ (d, clean_frame page) ∷ kept

-- the frames behind that of the transaction table
abbrev pub behind : List (ℕ × Frame) → List (ℕ × Frame)
behind [] = []
behind (e ∷ es) = es

-- How fetching block d moves the frames: one that is there is the most recently used then.
pub record Moves (d : ℕ) (old new : List (ℕ × Frame)) : Type 0 where
  pub table : frame_at new TXN_TABLE_BLOCK ≡ frame_at old TXN_TABLE_BLOCK
  pub itself : d ≡ TXN_TABLE_BLOCK → new ≡ old
  pub hit : nat_eq d TXN_TABLE_BLOCK ≡ false → IsSome (frame_at old d) → behind new ≡ promoted (nat_eq d) (behind old)
  pub miss : frame_at old d ≡ None → Brought FRAMES d (behind old) (behind new)
