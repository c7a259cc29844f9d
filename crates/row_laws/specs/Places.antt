-- A place that was found in an earlier list: whether a commit or a move since changed or moved its row is told by the undo
-- address of the image that stands there.
use Rattle.std.specs.Prelude.{◌≡◌, ◌≢◌, ℕ, true, false, List, Some}
use Rattle.seg_words.specs.Types.{Shape}
use Rattle.redo_model.specs.Records.{Record}
use Rattle.redo_model.specs.Model.{commit_count, image_at, row_at, AreAllowed}
use Rattle.redo_laws.specs.Stays.{Later, IsQuiet}
use Rattle.redo_laws.specs.Views.{IsOpen}
use Rattle.scan_laws.specs.Changes.{changed_above}

-- where slot k of block b gave row n at all commits of Q for t: in R it has the undo address that it had in Q exactly where
-- no commit or move above Q's changed or moved the row, and then it gives the same row
pub record PlaceTells (Q R : List Record) (b k t n : ℕ) (bytes : List ℕ) : Type 0 where
  pub same : changed_above R (commit_count Q) n ≡ false → (image_at R b k (commit_count R) t).undo ≡ (image_at Q b k (commit_count Q) t).undo
  pub row : changed_above R (commit_count Q) n ≡ false → row_at R b k (commit_count R) t ≡ Some (n, bytes)
  pub other : changed_above R (commit_count Q) n ≡ true → (image_at R b k (commit_count R) t).undo ≢ (image_at Q b k (commit_count Q) t).undo

-- t is open in both, and did nothing between; the block wasn't formatted again
abbrev pub PlacesTell : Type 0
PlacesTell =
    (sh : Shape) (Q R : List Record) (b k t n : ℕ) (bytes : List ℕ) → AreAllowed sh R → IsOpen Q t → IsOpen R t → Later (IsQuiet t b) Q R
    → row_at Q b k (commit_count Q) t ≡ Some (n, bytes) → PlaceTells Q R b k t n bytes
