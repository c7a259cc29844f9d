-- What is counted of entries, and the line that says it. Entries stand with the newest first.
use Rattle.std.specs.Prelude.{ℕ, ◌+◌, List, [], ◌∷◌, ◌++◌, length, codes, decimal}
use Rattle.std.specs.List.{sum_by}
use Rattle.history_text.specs.declared.entry.Entry.{Entry}
use Rattle.history_text.specs.declared.outcome.RowOut.{RowOut}
use Rattle.history_text.specs.declared.outcome.Outcome.{Outcome}
use Rattle.history_text.specs.declared.outcome.Outcome.TheVariants as led
use Rattle.script_gen.specs.declared.summing.Totals.{Totals}

-- ---- of entries

abbrev pub refusals_in : Outcome → ℕ
refusals_in (led.Refused refusal) = 1
refusals_in outcome = 0

abbrev pub refusals_of : List Entry → ℕ
refusals_of [] = 0
refusals_of (e ∷ es) = refusals_in e.outcome + refusals_of es

-- the rows of a scan that completed; those before it count where it is none
abbrev pub rows_after : Outcome → List RowOut → List RowOut
rows_after (led.Scan table at rows) others = rows
rows_after outcome others = others

-- the rows of the last scan that completed
abbrev pub last_rows : List Entry → List RowOut
last_rows [] = []
last_rows (e ∷ es) = rows_after e.outcome (last_rows es)

abbrev pub bytes_in : List RowOut → ℕ
bytes_in rows = sum_by (λ row. length row.bytes) rows

abbrev pub totals_of : List Entry → Totals
totals_of es = record { entries = length es; refused = refusals_of es; rows = length (last_rows es); bytes = bytes_in (last_rows es) }

-- ---- the line

unfoldable pub count_text : List ℕ → ℕ → List ℕ
count_text word count = word ++ decimal count

unfoldable pub totals_text : Totals → ℕ → List ℕ
totals_text t commits = count_text (codes "entries ") t.entries ++ count_text (codes " refused ") t.refused ++ count_text (codes " commits ") commits ++ count_text (codes " rows ") t.rows ++ count_text (codes " bytes ") t.bytes ++ codes "\n"

-- of these entries, beside so many commits in the store
abbrev pub summary_text : List Entry → ℕ → List ℕ
summary_text es commits = totals_text (totals_of es) commits
