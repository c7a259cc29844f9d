-- What a whole block gives at a commit number for a transaction stays, as what each of its slots gives does.
use Rattle.std.specs.Prelude.{◌≡◌, ℕ, ◌≤◌, List}
use Rattle.seg_words.specs.Types.{Shape}
use Rattle.redo_model.specs.Records.{Record}
use Rattle.redo_model.specs.Model.{commit_count, rows_at, AreAllowed}
use Rattle.redo_laws.specs.Stays.{Later, IsQuiet}

abbrev pub RowsOfBlocksStay : Type 0
RowsOfBlocksStay = (sh : Shape) (Q R : List Record) (b s t : ℕ) → AreAllowed sh R → s ≤ commit_count Q → Later (IsQuiet t b) Q R → rows_at R b s t ≡ rows_at Q b s t
