-- When a record of transactions, undo blocks and cleaning may follow the records R, and what its fields must be. Oracle
-- Database Concepts, "Transactions"; the table of 96 entries, which entry is taken, and the ring are this engine's own.
use Rattle.std.specs.Prelude.{◌≡◌, ℕ, suc, ◌<◌, ◌≤◌, Bool, true, false, cond, ◌||◌, eqb, List, [], ◌∷◌, Option, Some, None}
use Rattle.seg_words.specs.Types.{Shape, Slot, ListEntry, Block, number_of, TXN_ENTRIES, MOST_SESSIONS}
use Rattle.redo_model.specs.Records.{Record, BeginRecord, ReuseRecord, CommitRecord, EndedRecord, CleanRecord}
use Rattle.redo_model.specs.Ordinals.{commit_count, txn_count}
use Rattle.redo_model.specs.Transactions.{is_active, has_ended, commit_number, control_number, entry_of, user_of, is_forgotten, has_open}
use Rattle.redo_model.specs.Steps.{is_by, standing, newest_of, is_backed}
use Rattle.redo_model.specs.Segments.{IsRowBlock}
use Rattle.redo_model.specs.Blocks.{block_of}
use Rattle.redo_model.specs.Undo.{MayReuse, undo_sequence}

-- the state of an entry of the transaction table
pub data EntryState : Type 0 where
  Unused : EntryState
  InUse : EntryState
  Committed : ℕ → EntryState
  RolledBack : EntryState

abbrev pub state_when_over : Option ℕ → EntryState
state_when_over None = RolledBack
state_when_over (Some c) = Committed c

abbrev pub state_of_user : List Record → Option ℕ → EntryState
state_of_user R None = Unused
state_of_user R (Some t) = cond (is_active R t) InUse (state_when_over (commit_number R t))

abbrev pub entry_state : List Record → ℕ → EntryState
entry_state R i = state_of_user R (user_of R i)

abbrev pub is_unused : EntryState → Bool
is_unused Unused = true
is_unused _ = false

abbrev pub is_rolled_back : EntryState → Bool
is_rolled_back RolledBack = true
is_rolled_back _ = false

-- no entry below n of the transaction table is so
abbrev pub NoneBelow : List Record → ℕ → (EntryState → Bool) → Type 0
NoneBelow R n p = (j : ℕ) → j < n → p (entry_state R j) ≡ false

-- the least unused entry
pub record TakesUnused (R : List Record) (entry control : ℕ) : Type 0 where
  pub within : entry < TXN_ENTRIES
  pub unused : entry_state R entry ≡ Unused
  pub least : NoneBelow R entry is_unused
  pub control_stays : control ≡ control_number R

-- else the least entry of a rolled-back transaction
pub record TakesRolledBack (R : List Record) (entry control : ℕ) : Type 0 where
  pub within : entry < TXN_ENTRIES
  pub no_unused : NoneBelow R TXN_ENTRIES is_unused
  pub rolled_back : entry_state R entry ≡ RolledBack
  pub least : NoneBelow R entry is_rolled_back
  pub control_stays : control ≡ control_number R

-- else the committed entry with the least commit number, to which the control number rises
pub record TakesCommitted (R : List Record) (entry control : ℕ) : Type 0 where
  pub within : entry < TXN_ENTRIES
  pub no_unused : NoneBelow R TXN_ENTRIES is_unused
  pub no_rolled_back : NoneBelow R TXN_ENTRIES is_rolled_back
  pub committed : entry_state R entry ≡ Committed control
  pub least : (j c : ℕ) → j < TXN_ENTRIES → entry_state R j ≡ Committed c → control ≤ c

pub data TakesEntry (R : List Record) (entry control : ℕ) : Type 0 where
  takes_unused : TakesUnused R entry control → TakesEntry R entry control
  takes_rolled_back : TakesRolledBack R entry control → TakesEntry R entry control
  takes_committed : TakesCommitted R entry control → TakesEntry R entry control

pub record BeginAllowed (R : List Record) (g : BeginRecord) : Type 0 where
  pub number : g.txn ≡ suc (txn_count R)
  pub session_from : 1 ≤ g.session
  pub session_to : g.session ≤ MOST_SESSIONS
  pub none_open : has_open R g.session ≡ false
  pub entry : TakesEntry R g.entry g.control

-- an undo block is taken into use: the record right after it is one whose parts call for it
pub record ReuseAllowed (sh : Shape) (R : List Record) (q : ReuseRecord) : Type 0 where
  pub block : MayReuse sh R q.block
  pub sequence : q.sequence ≡ suc (undo_sequence R q.block)

pub record CommitAllowed (R : List Record) (c : CommitRecord) : Type 0 where
  pub active : is_active R c.txn ≡ true
  pub number : c.number ≡ suc (commit_count R)
  pub entry : entry_of R c.txn ≡ Some c.entry
  pub whole : is_backed R c.txn ≡ false

pub record EndedAllowed (R : List Record) (e : EndedRecord) : Type 0 where
  pub active : is_active R e.txn ≡ true
  pub entry : entry_of R e.txn ≡ Some e.entry
  pub none_left : newest_of (standing R) e.txn ≡ None

abbrev pub slots_name : List Slot → ℕ → Bool
slots_name [] t = false
slots_name (s ∷ ss) t = is_by s.writer t || slots_name ss t

abbrev pub entries_name : List ListEntry → ℕ → Bool
entries_name [] t = false
entries_name (e ∷ es) t = eqb e.txn t || entries_name es t

-- a slot or a list entry of the block names the transaction
abbrev pub is_named_in : Block → ℕ → Bool
is_named_in b t = slots_name b.slots t || entries_name b.entries t

abbrev pub number_or_zero : Option ℕ → ℕ
number_or_zero None = 0
number_or_zero (Some c) = c

-- the number that a Clean states of an ended transaction: 0 for a forgotten one and for one that was rolled back
abbrev pub stated_number : List Record → ℕ → ℕ
stated_number R t = cond (is_forgotten R t) 0 (number_or_zero (commit_number R t))

-- in rising order, each once
abbrev pub IsRising : List (ℕ × ℕ) → Type 0
IsRising [] = Unit {0}
IsRising (c ∷ []) = Unit {0}
IsRising (c ∷ d ∷ cs) = (c.0 < d.0) × IsRising (d ∷ cs)

-- of one transaction that a Clean names
pub record Names (R : List Record) (b t n : ℕ) : Type 0 where
  pub named : is_named_in (block_of R b) t ≡ true
  pub ended : has_ended R t ≡ true
  pub number : n ≡ stated_number R t

-- exactly the ended transactions that slots or list entries of the block name
pub record CleanAllowed (sh : Shape) (R : List Record) (c : CleanRecord) : Type 0 where
  pub obj : ℕ
  pub here : IsRowBlock sh R obj c.dba
  pub rising : IsRising c.ended
  pub each : (t n : ℕ) → number_of c.ended t ≡ Some n → Names R c.dba t n
  pub all : (t : ℕ) → is_named_in (block_of R c.dba) t ≡ true → has_ended R t ≡ true → number_of c.ended t ≡ Some (stated_number R t)
