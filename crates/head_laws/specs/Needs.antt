-- An update of a located row that answers that it needs a block: what follows for the search, and for the update once more in the
-- same list with the block that it gave.
use Rattle.std.specs.Prelude.{◌≡◌, ℕ, true, List, length, Option, Some, None}
use Rattle.seg_words.specs.Types.{Shape, Rowid, UndoAddr, is_shape}
use Rattle.redo_model.specs.Records.{Record}
use Rattle.redo_model.specs.Model.{AreAllowed}
use Rattle.mark_laws.specs.Searches.{find_of}
use Rattle.mark_laws.specs.declared.step.Found.TheVariants as found
use Rattle.change_laws.specs.Types.{IsOwn, ToOther, path_of, IsFreeNow, migrate_of, stand_at, by_change, update_answer, BlockNeeded, MayBeTarget}
use Rattle.head_laws.specs.Heads.{WasLocated, stand_by, sought_by}

-- The row is free and goes to another block. A block that the search by its place and head gives is one to which it may go, and
-- with a block the update is the migration there, or undo is full for it.
pub record NeedMeets (sh : Shape) (R : List Record) (own : Option ℕ) (o n : ℕ) (p : Rowid) (start : ℕ) (head : Option Rowid) (bytes : List ℕ) (needed : ℕ) : Type 0 where
  pub free : IsFreeNow R own o n p start
  pub stands : stand_at R p ≡ stand_by head p
  pub length_is : needed ≡ length bytes
  pub away : path_of R own (stand_at R p) (length bytes) ≡ ToOther
  pub target : (hint : Option ℕ) (b : ℕ) → find_of sh R (sought_by own o needed head p) hint ≡ Some (found.Block b) → MayBeTarget sh R own o (stand_at R p) (length bytes) (Some b)
  pub next : (b : ℕ) → update_answer sh R own o n p start bytes (Some b) ≡ by_change sh R (length bytes) (Some (migrate_of R o n (stand_at R p) b bytes))

abbrev pub NeedsAreMet : Type 0
NeedsAreMet =
    (sh : Shape) (R : List Record) (own : Option ℕ) (o n : ℕ) (p : Rowid) (born : ℕ) (undo : UndoAddr) (start : ℕ) (head : Option Rowid) (bytes : List ℕ) (needed : ℕ) → is_shape sh ≡ true → AreAllowed sh R → IsOwn R own
    → WasLocated sh R own o n p born undo start head → update_answer sh R own o n p start bytes None ≡ BlockNeeded needed
    → NeedMeets sh R own o n p start head bytes needed
