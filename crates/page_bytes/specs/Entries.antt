-- The 24 bytes of an entry of a block's transaction list.
use Rattle.std.specs.Prelude.{ℕ, ◌<◌, ◌^◌, List, ◌++◌}
use Rattle.seg_words.specs.Types.{w64, to_be_bytes, ListEntry, number_in}

-- the transaction, its commit number, 8 zeros
abbrev pub entry_bytes : ListEntry → List ℕ
entry_bytes e = to_be_bytes w64 e.txn ++ to_be_bytes w64 e.number ++ to_be_bytes w64 0

abbrev pub entry_from : List ℕ → ListEntry
entry_from g = record { txn = number_in w64 g 0; number = number_in w64 g 8 }

-- the entries that have a spelling
pub record IsListEntry (e : ListEntry) : Type 0 where
  pub txn : e.txn < 2 ^ 64
  pub number : e.number < 2 ^ 64
