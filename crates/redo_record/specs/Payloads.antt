-- Whole records one behind the other.
use Rattle.std.specs.Prelude.{ℕ, List, flat_map}
use Rattle.seg_words.specs.Types.{AllByRecursion}
use Rattle.redo_record.specs.OwnTypes.{Record}
use Rattle.redo_record.specs.Spelling.{spelling}
use Rattle.redo_record.specs.Spelled.{HasSpelling}

abbrev pub payload : List Record → List ℕ
payload recs = flat_map spelling recs

abbrev pub HaveSpellings : List Record → Type 0
HaveSpellings recs = AllByRecursion HasSpelling recs
