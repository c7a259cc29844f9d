-- The row blocks that an update changes, as they are noted: each once.
use Rattle.std.specs.Prelude.{ℕ, Bool, true, false, cond, eqb, ◌||◌, List, [], ◌∷◌, Option, Some, None, slice_index_or}
use Rattle.seg_words.specs.Types.{Kind, Empty, Rowid, new_slot}
use Rattle.row_block.specs.Types.{RowPage}
use Rattle.change_laws.specs.Drafts.{Fill}
use Rattle.page_set.specs.declared.page.Page.{Page}
use Rattle.page_set.specs.declared.page.Page.TheVariants.{Rows}
use Rattle.session_core.specs.declared.changed.Changed.{Changed}

abbrev pub is_empty : Kind → Bool
is_empty Empty = true
is_empty k = false

-- the slot is empty or isn't there
abbrev pub is_empty_at : RowPage → ℕ → Bool
is_empty_at b k = is_empty (slice_index_or b.block.slots k new_slot).kind

abbrev pub is_empty_in : ℕ → Page → Bool
is_empty_in k (Rows b) = is_empty_at b k
is_empty_in k page = false

abbrev pub no_blocks : Changed
no_blocks = record { obj = None; first = None; second = None; third = None }

abbrev pub one_block : ℕ → Changed
one_block b = record { obj = None; first = Some b; second = None; third = None }

abbrev pub two_blocks : ℕ → ℕ → Changed
two_blocks b c = record { obj = None; first = Some b; second = Some c; third = None }

-- those in which a row stands whose head and slot these are
abbrev pub home_blocks : Option Rowid → Rowid → Changed
home_blocks None p = one_block p.dba
home_blocks (Some head) p = cond (eqb head.dba p.dba) (one_block p.dba) (two_blocks p.dba head.dba)

-- with another block behind them
abbrev pub after_first : Option ℕ → Option ℕ → ℕ → Changed
after_first b None d = record { obj = None; first = b; second = Some d; third = None }
after_first b (Some c) d = record { obj = None; first = b; second = Some c; third = Some d }

abbrev pub with_target : Changed → ℕ → Changed
with_target c d = after_first c.first c.second d

-- ---- which they are

abbrev pub is_block : Option ℕ → ℕ → Bool
is_block None d = false
is_block (Some b) d = eqb b d

abbrev pub is_noted : Changed → ℕ → Bool
is_noted c d = is_block c.first d || (is_block c.second d || is_block c.third d)

-- one of these puts something into the block
abbrev pub is_filled : List Fill → ℕ → Bool
is_filled [] d = false
is_filled (f ∷ fs) d = eqb f.at.dba d || is_filled fs d
