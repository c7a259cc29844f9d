-- The cursor of a shrink under way stands at one of the table's positions.
use Rattle.std.specs.Prelude.{◌≡◌, ℕ, ◌<◌, true, List, length}
use Rattle.seg_words.specs.Types.{Shape, is_shape}
use Rattle.redo_model.specs.Records.{Record}
use Rattle.redo_model.specs.Model.{IsLawful, IsTable, data_blocks}
use Rattle.shrink_laws.specs.declared.skip.Skip.{Skip}
use Rattle.shrink_laws.specs.Cursor.{CursorStands}

abbrev pub CursorsAreThere : Type 0
CursorsAreThere = (sh : Shape) (B R : List Record) (o : ℕ) (skips : List Skip) (cursor : ℕ) → is_shape sh ≡ true → IsLawful sh B → IsTable B o → CursorStands sh B R o skips cursor → cursor < length (data_blocks sh R o)
