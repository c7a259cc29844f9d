-- What the refusal of a scan means, over a small run: a session scans at commit number 1; meanwhile row 2 is deleted, row 4 moves
-- into its slot, and the undo block with the deletion's part is taken into use again.
use Rattle.std.specs.Prelude.{[]}
use Rattle.redo_model.specs.Worked.{small, undo_at, three, reused}
use Rattle.script_text.specs.declared.statement.Statement.TheVariants as asked
use Rattle.history_text.specs.declared.refusal.Refusal.TheVariants as why
use Rattle.history_model.specs.declared.history.Kept.{Kept}
use Rattle.history_model.specs.declared.history.Kept.TheVariants as kept
use Rattle.history_model.specs.Spans.{Span}
use Rattle.history_model.specs.Means.{RefusalMeans}
use Rattle.history_model.specs.Worked.{name_t}

abbrev pub scan_span : Span
scan_span = record { session = 2; scripts = []; past = []; begun = three; ended = reused }

-- by the part of the deletion, with this kept
abbrev pub IsRefusedBy : Kept → Type 0
IsRefusedBy k = RefusalMeans small scan_span (asked.Scan name_t) (why.TooOld (undo_at 6)) k

pub record ScansAreShown : Type 0 where
  pub too_old : IsRefusedBy (kept.Read 0)
  pub nothing_kept : IsRefusedBy kept.Nothing → ⊥
  pub past_its_list : IsRefusedBy (kept.Read 1) → ⊥
