-- The marks of a table are in order and within its data blocks, its formatted blocks lie under the high one; there are at
-- most 32 tables.
use Rattle.std.specs.Prelude.{◌≡◌, ℕ, ◌≤◌, true, List, length, Contains}
use Rattle.seg_words.specs.Types.{Shape, MOST_TABLES}
use Rattle.redo_model.specs.Records.{Record}
use Rattle.redo_model.specs.Model.{IsTable, IsRowBlock, data_blocks, low_mark, high_mark, is_formatted, table_count, AreAllowed}

pub record MarksOf (sh : Shape) (R : List Record) (o : ℕ) : Type 0 where
  pub order : low_mark R o ≤ high_mark R o
  pub within : high_mark R o ≤ length (data_blocks sh R o)

abbrev pub MarksAreInOrder : Type 0
MarksAreInOrder = (sh : Shape) (R : List Record) (o : ℕ) → AreAllowed sh R → 1 ≤ o → o ≤ MOST_TABLES → MarksOf sh R o

abbrev pub FormattedAreUnderMark : Type 0
FormattedAreUnderMark = (sh : Shape) (R : List Record) (o b : ℕ) → AreAllowed sh R → IsTable R o → Contains (data_blocks sh R o) b → is_formatted sh R b ≡ true → IsRowBlock sh R o b

abbrev pub TablesAreFew : Type 0
TablesAreFew = (sh : Shape) (R : List Record) → AreAllowed sh R → table_count R ≤ MOST_TABLES
