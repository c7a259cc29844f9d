-- What stands in the slots and list entries of a block can be put on its page: numbers are in range, an Empty slot and a
-- head have no row, the room is at least the row's length, and just that where a commit number is the writer.
use Rattle.std.specs.Prelude.{◌≡◌, ℕ, suc, ◌≤◌, ◌<◌, ◌^◌, true, false, List, [], length}
use Rattle.seg_words.specs.Types.{Shape, Slot, At, is_shape}
use Rattle.redo_model.specs.Records.{Record, IsImage}
use Rattle.redo_model.specs.Model.{image, entry, holds_row, AreAllowed}

pub record IsSound (i : Slot) : Type 0 where
  pub image : IsImage i
  pub rowless : holds_row i.kind ≡ false → i.bytes ≡ []
  pub within : length i.bytes ≤ i.room
  pub exact : (c : ℕ) → i.writer ≡ At c → i.room ≡ length i.bytes

pub record BlockIsSound (R : List Record) (b : ℕ) : Type 0 where
  pub slots : (k : ℕ) → IsSound (image R b k)
  pub txns : (i : ℕ) → (entry R b i).txn < 2 ^ 64
  pub numbers : (i : ℕ) → (entry R b i).number ≡ 0

abbrev pub BlocksAreSound : Type 0
BlocksAreSound = (sh : Shape) (R : List Record) (b : ℕ) → is_shape sh ≡ true → suc (length R) < 2 ^ 64 → AreAllowed sh R → BlockIsSound R b
