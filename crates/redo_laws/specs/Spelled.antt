-- What is lawful can be written: an allowed record has a spelling, in a store within its limits and after fewer records
-- than numbers of 64 bits can count.
use Rattle.std.specs.Prelude.{◌≡◌, suc, ◌<◌, ◌^◌, true, List, ◌∷◌, length}
use Rattle.seg_words.specs.Types.{Shape, is_shape}
use Rattle.redo_model.specs.Records.{Record, HasSpelling}
use Rattle.redo_model.specs.Model.{AreAllowed}

abbrev pub RecordsAreSpelled : Type 0
RecordsAreSpelled = (sh : Shape) (R : List Record) (r : Record) → is_shape sh ≡ true → suc (length R) < 2 ^ 64 → AreAllowed sh (r ∷ R) → HasSpelling r
