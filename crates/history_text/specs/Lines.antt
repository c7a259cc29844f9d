-- The text of an entry, line by line, each ended by LF. This engine's own.
use Rattle.std.specs.Prelude.{ℕ, ◌*◌, Bool, true, false, List, [], ◌∷◌, ◌++◌, length, Option, Some, None, codes, decimal}
use Rattle.seg_words.specs.Types.{BLOCK_SIZE, Class}
use Rattle.history_text.specs.declared.entry.Entry.{Entry}
use Rattle.history_text.specs.declared.outcome.RowOut.{RowOut}
use Rattle.history_text.specs.declared.outcome.Stop.{Stop}
use Rattle.history_text.specs.declared.outcome.Stop.TheVariants.{NoFit, Bottom}
use Rattle.history_text.specs.declared.outcome.Usage.{Usage}
use Rattle.history_text.specs.declared.outcome.Outcome.{Outcome}
use Rattle.history_text.specs.Refusals.{refused_text}
use Rattle.seg_base.specs.declared.«class».Class.TheVariants as classes
use Rattle.history_text.specs.declared.outcome.Outcome.TheVariants as led

-- ---- scans
-- two spaces, the row number, a space, the row's bytes
unfoldable pub row_line : RowOut → List ℕ
row_line out = codes "  " ++ decimal out.row ++ codes " " ++ out.bytes ++ codes "\n"

abbrev pub row_lines : List RowOut → List ℕ
row_lines [] = []
row_lines (out ∷ rows) = row_line out ++ row_lines rows

-- the commit number of the scan and how many rows, then the rows
unfoldable pub scan_text : List ℕ → ℕ → List RowOut → List ℕ
scan_text table at rows = codes "scan " ++ table ++ codes " at " ++ decimal at ++ codes " rows " ++ decimal (length rows) ++ codes "\n" ++ row_lines rows

-- ---- tables
abbrev pub switch_text : Bool → List ℕ
switch_text true = codes "on"
switch_text false = codes "off"

unfoldable pub movement_text : List ℕ → Bool → List ℕ
movement_text table on = codes "movement " ++ table ++ codes " " ++ switch_text on ++ codes "\n"

-- ---- shrink
-- a row that found no place stands at a block and a slot
abbrev pub stop_text : Stop → List ℕ
stop_text Bottom = codes "bottom"
stop_text (NoFit at) = codes "nofit " ++ decimal at.dba ++ codes "." ++ decimal at.slot

unfoldable pub shrink_text : List ℕ → ℕ → ℕ → Stop → List ℕ
shrink_text table moved skipped stop = codes "shrink " ++ table ++ codes " moved " ++ decimal moved ++ codes " skipped " ++ decimal skipped ++ codes " " ++ stop_text stop

unfoldable pub released_text : ℕ → ℕ → List ℕ
released_text released high = codes " released " ++ decimal released ++ codes " high " ++ decimal high ++ codes "\n"

-- ---- usage
unfoldable pub count_text : List ℕ → ℕ → List ℕ
count_text kept blocks = kept ++ decimal blocks

unfoldable pub unformatted_text : ℕ → List ℕ
unformatted_text blocks = count_text (codes " unformatted ") blocks

unfoldable pub usage_quarters : Usage → List ℕ
usage_quarters usage = count_text (codes " fs1 ") usage.fs1 ++ count_text (codes " fs2 ") usage.fs2 ++ count_text (codes " fs3 ") usage.fs3 ++ count_text (codes " fs4 ") usage.fs4

unfoldable pub usage_counts : Usage → List ℕ
usage_counts usage = unformatted_text usage.unformatted ++ usage_quarters usage ++ count_text (codes " full ") usage.full

unfoldable pub usage_marks : Usage → List ℕ
usage_marks usage = codes " low " ++ decimal usage.low ++ codes " high " ++ decimal usage.high ++ codes " extents " ++ decimal usage.extents ++ codes "\n"

-- so many blocks
abbrev pub bytes_of : ℕ → List ℕ
bytes_of blocks = codes " " ++ decimal (blocks * BLOCK_SIZE)

unfoldable pub usage_bytes : Usage → List ℕ
usage_bytes usage =
    codes "  bytes" ++ bytes_of usage.unformatted ++ bytes_of usage.fs1 ++ bytes_of usage.fs2 ++ bytes_of usage.fs3 ++ bytes_of usage.fs4
    ++ bytes_of usage.full ++ codes "\n"

-- two lines
unfoldable pub usage_text : List ℕ → Usage → List ℕ
usage_text table usage = codes "usage " ++ table ++ usage_counts usage ++ usage_marks usage ++ usage_bytes usage

-- ---- repairs
-- no block is fixed as unformatted; the word is that of the usage
abbrev pub class_text : Class → List ℕ
class_text classes.Unformatted = codes "unformatted"
class_text classes.Full = codes "full"
class_text classes.Fs1 = codes "fs1"
class_text classes.Fs2 = codes "fs2"
class_text classes.Fs3 = codes "fs3"
class_text classes.Fs4 = codes "fs4"

unfoldable pub fixed_text : ℕ → Class → List ℕ
fixed_text block kept = codes "fixed " ++ decimal block ++ codes " " ++ class_text kept ++ codes "\n"

unfoldable pub repaired_text : List ℕ → ℕ → List ℕ
repaired_text table changed = codes "repaired " ++ table ++ codes " changed " ++ decimal changed ++ codes "\n"

-- ---- entries
unfoldable pub outcome_text : Outcome → List ℕ
outcome_text (led.Table name) = codes "table " ++ name ++ codes "\n"
outcome_text (led.Movement table on) = movement_text table on
outcome_text (led.Inserted row) = codes "inserted " ++ decimal row ++ codes "\n"
outcome_text (led.Updated row) = codes "updated " ++ decimal row ++ codes "\n"
outcome_text (led.Deleted row) = codes "deleted " ++ decimal row ++ codes "\n"
outcome_text (led.Committed number) = codes "committed " ++ decimal number ++ codes "\n"
outcome_text led.NothingToCommit = codes "nothing to commit\n"
outcome_text led.RolledBack = codes "rolled back\n"
outcome_text led.NothingToRollBack = codes "nothing to roll back\n"
outcome_text (led.Scan table at rows) = scan_text table at rows
outcome_text (led.Compacted table moved skipped stop) = shrink_text table moved skipped stop ++ codes "\n"
outcome_text (led.Shrunk table moved skipped stop released high) = shrink_text table moved skipped stop ++ released_text released high
outcome_text (led.Usage table usage) = usage_text table usage
outcome_text (led.Fixed block kept) = fixed_text block kept
outcome_text (led.Repaired table changed) = repaired_text table changed
outcome_text led.Checkpoint = codes "checkpoint\n"
outcome_text (led.Refused refusal) = refused_text refusal

abbrev pub ordinal_text : Option ℕ → List ℕ
ordinal_text (Some number) = decimal number
ordinal_text None = codes "end"

-- the session, a full stop, the statement's ordinal or `end`, a space, and the text
unfoldable pub entry_text : Entry → List ℕ
entry_text entry = decimal entry.session ++ codes "." ++ ordinal_text entry.ordinal ++ codes " " ++ outcome_text entry.outcome
