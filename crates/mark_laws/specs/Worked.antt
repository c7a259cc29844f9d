-- The definitions on small runs: a store of 64 blocks with extents of 8 and 2 undo blocks, and a table with PCTFREE 50.
use Rattle.std.specs.Prelude.{◌≡◌, ℕ, zero, suc, List, [], ◌∷◌, length, Option, Some, None}
use Rattle.seg_words.specs.Types.{New, Full}
use Rattle.redo_model.specs.Records.{Record, Table, Extend, Class}
use Rattle.redo_model.specs.Model.{data_blocks, low_mark, high_mark}
use Rattle.redo_model.specs.Worked.{small}
use Rattle.mark_laws.specs.declared.step.MarkStep.{MarkStep}
use Rattle.mark_laws.specs.declared.step.MarkStep.TheVariants as step
use Rattle.mark_laws.specs.declared.step.Found.TheVariants as found
use Rattle.mark_laws.specs.declared.step.Refusal.TheVariants as refusal
use Rattle.mark_laws.specs.Movements.{least_free, next_mark}
use Rattle.mark_laws.specs.Drafts.{mark_record, drafted_table, drafted_first}
use Rattle.mark_laws.specs.Searches.{Sought, find_of}
use Rattle.mark_laws.specs.Refusals.{refusal_of}

abbrev pub name_t : List ℕ
name_t = 116 ∷ []

abbrev pub made : List Record
made = Extend (drafted_first small [] 0) ∷ Table (drafted_table small [] name_t 50 0) ∷ []

abbrev pub advanced : List Record
advanced = mark_record small made 1 step.Advance ∷ made

abbrev pub formatted : List Record
formatted = mark_record small advanced 1 (step.Format 43) ∷ advanced

-- a block for a row of this length by a new transaction
abbrev pub row_of : ℕ → Sought
row_of len = record { obj = 1; len = len; taker = New; but = None ∷ None ∷ [] }

-- a new table: its marks are moved, its first block is formatted, and that takes the row
pub record NewTableRight : Type 0 where
  pub extent : least_free small [] ≡ Some 0
  pub first : find_of small made (row_of 1800) None ≡ Some (found.Mark step.Advance)
  pub then_format : find_of small advanced (row_of 1800) None ≡ Some (found.Mark (step.Format 43))
  pub then_block : find_of small formatted (row_of 1800) None ≡ Some (found.Block 43)
  pub next : next_mark small formatted 1 ≡ Some (step.Format 44)
  pub left_out : find_of small formatted (record { obj = 1; len = 1800; taker = New; but = Some 43 ∷ None ∷ [] }) None ≡ Some (found.Mark (step.Format 44))

-- the marks move up to n times
abbrev pub moved_on : Option MarkStep → List Record → List Record
moved_on None R = R
moved_on (Some m) R = mark_record small R 1 m ∷ R

abbrev pub moved : ℕ → List Record → List Record
moved zero R = R
moved (suc n) R = moved n (moved_on (next_mark small R 1) R)

-- these blocks are kept as full
abbrev pub kept_full : List ℕ → List Record → List Record
kept_full [] R = R
kept_full (b ∷ bs) R = kept_full bs (Class (record { obj = 1; dba = b; class = Full; l2 = 40; l3 = 41; index = 0; best_of_l1 = 0; best_of_l2 = 0 }) ∷ R)

abbrev pub filled : List Record
filled = moved 23 made

abbrev pub all_kept_full : List Record
all_kept_full = kept_full (data_blocks small filled 1) filled

-- All three extents of the store go to the table: 4, 7 and 7 data blocks are formatted, with an Advance before each lot and an
-- Extend between them. Then the marks can't move any more: a row that no block takes is refused, and blocks that are kept as
-- full are looked at last.
pub record SearchesRight : Type 0 where
  pub extend : next_mark small (moved 5 made) 1 ≡ Some (step.Extend 1)
  pub advance : next_mark small (moved 6 made) 1 ≡ Some step.Advance
  pub format : next_mark small (moved 7 made) 1 ≡ Some (step.Format 48)
  pub last : next_mark small (moved 22 made) 1 ≡ Some (step.Format 62)
  pub records : length filled ≡ 25
  pub lowest : low_mark filled 1 ≡ 11
  pub highest : high_mark filled 1 ≡ 18
  pub end : next_mark small filled 1 ≡ None
  pub hinted : find_of small (moved 9 made) (row_of 1800) (Some 1) ≡ Some (found.Block 48)
  pub hint_of_no_extent : find_of small (moved 9 made) (row_of 1800) (Some 2) ≡ Some (found.Block 43)
  pub too_long : find_of small filled (row_of 2000) None ≡ None
  pub why : refusal_of filled (row_of 2000) ≡ refusal.NoSpace 2000
  pub kept_as_full : find_of small (kept_full (43 ∷ []) filled) (row_of 1800) None ≡ Some (found.Block 44)
  pub mark_before_full : find_of small (kept_full (43 ∷ []) formatted) (row_of 1800) None ≡ Some (found.Mark (step.Format 44))
  pub full_at_last : find_of small all_kept_full (row_of 1800) None ≡ Some (found.Block 43)
  pub full_but_one : find_of small all_kept_full (record { obj = 1; len = 1800; taker = New; but = Some 43 ∷ Some 44 ∷ [] }) None ≡ Some (found.Block 45)
