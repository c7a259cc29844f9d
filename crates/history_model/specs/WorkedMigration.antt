-- What an update that migrates its row means, over a small run: row 1 grows from 100 to 400 letters beside two long rows, so block
-- 44 is formatted, and the row goes there.
use Rattle.std.specs.Prelude.{ℕ, List, []}
use Rattle.redo_model.specs.Worked.{small, letters, three, migrated}
use Rattle.script_text.specs.declared.statement.Target.TheVariants.{Number}
use Rattle.history_model.specs.Spans.{Span}
use Rattle.history_model.specs.RowMeans.{UpdateMeans}
use Rattle.history_model.specs.Makes.{UpdateMoves}
use Rattle.history_model.specs.Worked.{name_t}

abbrev pub grown_text : List ℕ
grown_text = letters 400 119

abbrev pub update_span : Span
update_span = record { session = 1; scripts = []; past = []; begun = three; ended = migrated }

pub record MigrationsAreShown : Type 0 where
  pub mark_is_called_for : UpdateMoves small [] [] name_t (Number 1) grown_text 1 three 1
  pub migrates : UpdateMeans small update_span name_t (Number 1) grown_text 1
