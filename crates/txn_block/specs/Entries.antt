-- Entries of the transaction table. Oracle Database Concepts, "Undo Segments" and "Transactions": a transaction has an
-- entry in a table, which others use again once it has ended. That there are 96, and which is used next, is this
-- engine's own.
use Rattle.std.specs.Prelude.{ℕ, ◌==◌, Bool, true, false, List, find, Option, Some, None}
use Rattle.seg_words.specs.Types.{UndoAddr}
use Rattle.txn_block.specs.OwnTypes.{Outcome, Active, Committed, RolledBack, TableEntry, Unused, Used}
use Rattle.txn_block.specs.declared.entry.State as states
use Rattle.txn_block.specs.declared.entry.State.TheVariants as state

abbrev pub state_of_outcome : Outcome → states.State
state_of_outcome Active = state.Active
state_of_outcome (Committed c) = state.Committed c
state_of_outcome RolledBack = state.RolledBack

abbrev pub names : ℕ → TableEntry → Bool
names t Unused = false
names t (Used e) = e.txn == t

abbrev pub is_unused : TableEntry → Bool
is_unused Unused = true
is_unused (Used e) = false

abbrev pub is_taken_back : Outcome → Bool
is_taken_back Active = false
is_taken_back (Committed c) = false
is_taken_back RolledBack = true

abbrev pub is_rolled_back : TableEntry → Bool
is_rolled_back Unused = false
is_rolled_back (Used e) = is_taken_back e.outcome

abbrev pub number_of : Outcome → Option ℕ
number_of Active = None
number_of (Committed c) = Some c
number_of RolledBack = None

-- the commit number of a committed entry
abbrev pub committed : TableEntry → Option ℕ
committed Unused = None
committed (Used e) = number_of e.outcome

abbrev pub has_active : Outcome → Bool
has_active Active = true
has_active (Committed c) = false
has_active RolledBack = false

abbrev pub is_active : TableEntry → Bool
is_active Unused = false
is_active (Used e) = has_active e.outcome

-- ---- what the table tells of a transaction

abbrev pub state_told : Option TableEntry → states.State
state_told None = state.Forgotten
state_told (Some Unused) = state.Forgotten
state_told (Some (Used e)) = state_of_outcome e.outcome

-- by the entry that names it; where none does, another one took its entry
abbrev pub state_in : List TableEntry → ℕ → states.State
state_in entries t = state_told (find (names t) entries)

abbrev pub undo_told : Option TableEntry → Option UndoAddr
undo_told None = None
undo_told (Some Unused) = None
undo_told (Some (Used e)) = e.last_undo

abbrev pub last_undo_in : List TableEntry → ℕ → Option UndoAddr
last_undo_in entries t = undo_told (find (names t) entries)

abbrev pub told : Option TableEntry → Option (ℕ × states.State)
told None = None
told (Some Unused) = None
told (Some (Used e)) = Some (e.txn, state_of_outcome e.outcome)
