-- The row blocks that an event changed.
use Rattle.std.specs.Prelude.{ℕ, List, slice_get, Some, None, Result, Ok, Err}
use Rattle.row_change.specs.declared.answer.Done.{Done}
use Rattle.row_change.specs.declared.answer.ChangeFault.{ChangeFault}
use Rattle.session_core.specs.declared.changed.Changed.{Changed}

-- these where the row was changed
abbrev pub changed_if : Result Done ChangeFault → Changed → Changed → Changed
changed_if (Ok done) blocks old = blocks
changed_if (Err fault) blocks old = old

-- these of this table
abbrev pub in_table : ℕ → Changed → Changed
in_table o c = record { obj = Some o; first = c.first; second = c.second; third = c.third }

-- the first three of these
abbrev pub of_blocks : List ℕ → Changed
of_blocks bs = record { obj = None; first = slice_get bs 0; second = slice_get bs 1; third = slice_get bs 2 }
