-- What the page of the transaction table tells of a transaction.
use Rattle.std.specs.Prelude.{◌≡◌, ℕ, ◌≤◌, Bool, true, false, nat_le, cond, List, position}
use Rattle.seg_words.specs.Types.{Shape}
use Rattle.redo_model.specs.Records.{Record}
use Rattle.redo_model.specs.Model.{has_begun, is_active, ended_in, entry_of, is_forgotten, last_undo, AreAllowed}
use Rattle.txn_block.specs.Types.{state_of_outcome, state_in, last_undo_in, names, TxnTable}
use Rattle.version_laws.specs.Pages.{outcome_of, HoldsTable}
use Rattle.txn_block.specs.declared.entry.State as states
use Rattle.txn_block.specs.declared.entry.State.TheVariants as state

-- how a transaction that has begun stands, as far as the table knows
abbrev pub state_known : List Record → ℕ → states.State
state_known R t = cond (is_forgotten R t) state.Forgotten (state_of_outcome (outcome_of R t))

-- how a transaction stands by the table: one that has not begun is as forgotten
abbrev pub state_of : TxnTable → ℕ → states.State
state_of p t = cond (nat_le t p.last_txn) (state_in p.entries t) state.Forgotten

abbrev pub is_over : states.State → Bool
is_over state.Active = false
is_over (state.Committed c) = true
is_over state.RolledBack = true
is_over state.Forgotten = true

-- the transactions that have ended, as the table knows them
abbrev pub ended_by : TxnTable → ℕ → Bool
ended_by p t = is_over (state_of p t)

-- transactions are numbered from 1
abbrev pub BegunFromOne : Type 0
BegunFromOne = (sh : Shape) (R : List Record) (t : ℕ) → AreAllowed sh R → has_begun R t ≡ true → 1 ≤ t

-- who has ended is one equation of functions, by which all that is asked of blocks goes over to the list
pub record TableTells (R : List Record) (p : TxnTable) : Type 0 where
  pub entry_state : (t : ℕ) → has_begun R t ≡ true → state_in p.entries t ≡ state_known R t
  pub state : (t : ℕ) → has_begun R t ≡ true → state_of p t ≡ state_known R t
  pub undo : (t : ℕ) → is_active R t ≡ true → last_undo_in p.entries t ≡ last_undo R t
  pub entry : (t : ℕ) → is_active R t ≡ true → position (names t) p.entries ≡ entry_of R t
  pub ended : ended_by p ≡ ended_in R

abbrev pub TablesTell : Type 0
TablesTell = (sh : Shape) (R : List Record) (p : TxnTable) → AreAllowed sh R → HoldsTable R p → TableTells R p
