-- What is counted position by position, in the words of the history.
use Rattle.std.specs.Prelude.{◌≡◌, ℕ, List, Some}
use Rattle.seg_words.specs.Types.{Shape}
use Rattle.redo_model.specs.Model.{table_named, AreAllowed}
use Rattle.space_usage.specs.Counting.{IsUsage}
use Rattle.history_text.specs.declared.outcome.Usage.{Usage}
use Rattle.history_model.specs.Spans.{Span}
use Rattle.history_model.specs.TableMeans.{UsageMeans}

abbrev pub UsagesMean : Type 0
UsagesMean = (sh : Shape) (x : Span) (name : List ℕ) (o : ℕ) (u : Usage) → AreAllowed sh x.ended → table_named x.begun name ≡ Some o → x.ended ≡ x.begun → IsUsage sh x.ended o u → UsageMeans sh x name u
