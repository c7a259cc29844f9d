-- The block's value and its slots and entries, one by one, are the same block.
use Rattle.std.specs.Prelude.{◌≡◌, ℕ, List, length, slice_index_or}
use Rattle.seg_words.specs.Types.{new_slot, new_entry}
use Rattle.redo_model.specs.Records.{Record}
use Rattle.redo_model.specs.Blocks.{block_of}
use Rattle.redo_model.specs.Slots.{image, slot_count, entry, entry_count}

-- of block b after the records R
pub record IsBridged (R : List Record) (b : ℕ) : Type 0 where
  pub images : (k : ℕ) → slice_index_or (block_of R b).slots k new_slot ≡ image R b k
  pub slots : length (block_of R b).slots ≡ slot_count R b
  pub entries : (i : ℕ) → slice_index_or (block_of R b).entries i new_entry ≡ entry R b i
  pub entry_count : length (block_of R b).entries ≡ entry_count R b

abbrev pub BlocksAreBridged : Type 0
BlocksAreBridged = (R : List Record) (b : ℕ) → IsBridged R b
