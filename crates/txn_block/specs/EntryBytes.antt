-- The 32 bytes of an entry. The layout is this engine's own.
use Rattle.std.specs.Prelude.{ℕ, zero, suc, ◌<◌, ◌^◌, List, [], ◌∷◌, ◌++◌, replicate, slice_index, Option}
use Rattle.seg_words.specs.Types.{w32, w64, to_be_bytes, UndoAddr, number_in, undo_or_zeros, undo_bytes}
use Rattle.page_bytes.specs.Types.{undo_as, UndoFits}
use Rattle.txn_block.specs.OwnTypes.{Outcome, Active, Committed, RolledBack, TxnEntry, TableEntry, Unused, Used}

-- 0 is unused
abbrev pub outcome_code : Outcome → ℕ
outcome_code Active = 1
outcome_code (Committed c) = 2
outcome_code RolledBack = 3

abbrev pub number_or_zero : Outcome → ℕ
number_or_zero Active = 0
number_or_zero (Committed c) = c
number_or_zero RolledBack = 0

-- the transaction, its state, its commit number, its newest undo, two zeros
abbrev pub used_bytes : TxnEntry → List ℕ
used_bytes e = to_be_bytes w64 e.txn ++ (outcome_code e.outcome ∷ to_be_bytes w64 (number_or_zero e.outcome) ++ (undo_bytes (undo_or_zeros e.last_undo) ++ (0 ∷ 0 ∷ [])))

unfoldable pub entry_bytes : TableEntry → List ℕ
entry_bytes Unused = replicate 32 0
entry_bytes (Used e) = used_bytes e

-- ---- reading: an unknown state is none

abbrev pub entry_told : ℕ → ℕ → ℕ → Option UndoAddr → TableEntry
entry_told txn zero number undo = Unused
entry_told txn (suc zero) number undo = Used (record { txn = txn; outcome = Active; last_undo = undo })
entry_told txn (suc (suc zero)) number undo = Used (record { txn = txn; outcome = Committed number; last_undo = undo })
entry_told txn (suc (suc (suc zero))) number undo = Used (record { txn = txn; outcome = RolledBack; last_undo = undo })
entry_told txn (suc (suc (suc (suc n)))) number undo = Unused

unfoldable pub entry_in : List ℕ → TableEntry
entry_in g = entry_told (number_in w64 g 0) (slice_index g 8) (number_in w64 g 9) (undo_as (number_in w32 g 17) (number_in w64 g 21) (slice_index g 29))

-- the entries that have a spelling
pub record IsUsed (e : TxnEntry) : Type 0 where
  pub txn : e.txn < 2 ^ 64
  pub number : number_or_zero e.outcome < 2 ^ 64
  pub undo : UndoFits e.last_undo

abbrev pub IsEntry : TableEntry → Type 0
IsEntry Unused = Unit {0}
IsEntry (Used e) = IsUsed e
