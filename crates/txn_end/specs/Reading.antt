-- What a step of a rollback asks of a page; none of a page that can't be asked so.
use Rattle.std.specs.Prelude.{ℕ, Bool, true, false, cond, eqb, ◌||◌, List, [], ◌∷◌, slice_get, slice_index_or, position, Option, Some, None}
use Rattle.seg_words.specs.Types.{UndoAddr, Slot, entry_for, is_empty, new_slot}
use Rattle.segment_blocks.specs.Types.{header_of}
use Rattle.txn_block.specs.Types.{names, last_undo_in}
use Rattle.undo_block.specs.declared.part.Part.{Part}
use Rattle.page_set.specs.declared.page.Page.{Page}
use Rattle.page_set.specs.declared.page.Page.TheVariants.{Zero, Txns, Catalogue, Undo, Header, Rows}
use Rattle.txn_end.specs.declared.standing.Standing.{Standing}

abbrev pub standing_at : Option ℕ → Option UndoAddr → Option Standing
standing_at None last = None
standing_at (Some i) last = Some (record { entry = i; last = last })

-- the transaction's entry, and where its newest undo stands
abbrev pub standing_in : Page → ℕ → Option Standing
standing_in (Txns table) t = standing_at (position (names t) table.entries) (last_undo_in table.entries t)
standing_in _ t = None

-- the part of undo at a place
abbrev pub part_in : Page → ℕ → Option Part
part_in (Undo block) n = slice_get block.parts n
part_in _ n = None

-- how often the undo block was taken into use
abbrev pub sequence_in : Page → Option ℕ
sequence_in (Undo block) = Some block.sequence
sequence_in _ = None

abbrev pub none_ended : ℕ → Bool
none_ended t = false

-- the list entry that the transaction has
abbrev pub entry_in : Page → ℕ → Option ℕ
entry_in (Rows rows) t = entry_for none_ended rows.block t
entry_in _ t = None

-- the row of the image in a slot, or the one before where the slot is empty
abbrev pub row_with : Slot → ℕ → ℕ
row_with image before = cond (is_empty image.kind) before image.row

abbrev pub row_in : Page → ℕ → ℕ → Option ℕ
row_in (Rows rows) k before = Some (row_with (slice_index_or rows.block.slots k new_slot) before)
row_in _ k before = None

-- the block of a table's header, none where the table isn't there: the catalogue is zeros before the first table
abbrev pub header_in : Page → ℕ → Option (Option ℕ)
header_in (Zero d) o = Some None
header_in (Catalogue tables) o = Some (header_of tables.entries o)
header_in _ o = None

abbrev pub has_number : List ℕ → ℕ → Bool
has_number [] x = false
has_number (y ∷ ys) x = eqb y x || has_number ys x

-- whether the table has an extent
abbrev pub extent_in : Page → ℕ → Option Bool
extent_in (Header header) x = Some (has_number header.extents x)
extent_in _ x = None

abbrev pub number_is : Option ℕ → ℕ → Bool
number_is None x = false
number_is (Some y) x = eqb y x
