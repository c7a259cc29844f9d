-- The counts of usage add up to the high mark.
use Rattle.std.specs.Prelude.{◌≡◌, ℕ, ◌+◌, List}
use Rattle.seg_words.specs.Types.{Shape}
use Rattle.redo_model.specs.Records.{Record}
use Rattle.redo_model.specs.Model.{IsTable, AreAllowed}
use Rattle.history_text.specs.declared.outcome.Usage.{Usage}
use Rattle.space_usage.specs.Counting.{IsUsage}

-- each position under the high mark is counted once
abbrev pub UsagesAddUp : Type 0
UsagesAddUp = (sh : Shape) (R : List Record) (o : ℕ) (u : Usage) → AreAllowed sh R → IsTable R o → IsUsage sh R o u → u.unformatted + u.fs1 + u.fs2 + u.fs3 + u.fs4 + u.full ≡ u.high
