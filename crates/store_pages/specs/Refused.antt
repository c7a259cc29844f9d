-- Why pages aren't made of a data file that may hold anything.
use Rattle.std.specs.Prelude.{◌≡◌, ◌⊎◌, ℕ, ◌*◌, ◌≤◌, true, false, List, length}
use Rattle.std.specs.List.{list_any}
use Rattle.seg_words.specs.Types.{Shape, BLOCK_SIZE, DOUBLE_WRITE_BLOCK, TXN_TABLE_BLOCK, is_shape}
use Rattle.disk_model.specs.Types.{Meaning, IsSettled}
use Rattle.disk_model.specs.declared.disk.File.TheVariants.{Data}
use Rattle.redo_record.specs.declared.record.Record.{Record}
use Rattle.page_store.specs.Pages.{is_sound_area, page_of as filed}
use Rattle.page_set.specs.Among.{is_among}
use Rattle.page_set.specs.Folded.{touched}
use Rattle.buffer_pool.specs.Frames.{IsSpelled}

-- the disk has a data file with all blocks of this shape, whatever they hold, and all of it is on the disk
pub record HasBlocks {D : Type 0} (meaning : Meaning D) (disk : D) (sh : Shape) : Type 0 where
  pub settled : IsSettled meaning disk Data
  pub within : is_shape sh ≡ true
  pub long : BLOCK_SIZE * sh.blocks ≤ length (meaning.files disk).data_bytes

-- one of the records touches the block
abbrev pub AnyTouches : Shape → List Record → ℕ → Type 0
AnyTouches sh records b = list_any (λ (r : Record). is_among (touched sh r) b) records ≡ true

-- block b can't be read: it is that of an area that isn't sound, or that of the transaction table, whose bytes spell no page once
-- the batch of the area is finished
abbrev pub IsUnread : Shape → List ℕ → ℕ → Type 0
IsUnread sh bytes b = ((is_sound_area sh bytes ≡ false) × (b ≡ DOUBLE_WRITE_BLOCK)) ⊎ ((is_sound_area sh bytes ≡ true) × (b ≡ TXN_TABLE_BLOCK) × (IsSpelled b (filed bytes b) → ⊥))

-- or the area is sound, and a record touches it
abbrev pub IsRefused : Shape → List ℕ → List Record → ℕ → Type 0
IsRefused sh bytes records b = IsUnread sh bytes b ⊎ ((is_sound_area sh bytes ≡ true) × AnyTouches sh records b)
