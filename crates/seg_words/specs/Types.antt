-- The types and the words of seg_base, for the specifications, contracts and proofs of the crates above, with the words of
-- the standard library on lists and number fields that they go with. Declares nothing.
pub use Rattle.seg_base.specs.declared.limit.TheConstants.{BLOCK_SIZE, BLOCK_ROOM, LONGEST_ROW, PAGE_HEAD_SIZE, SLOT_SIZE, MOST_SLOTS, LIST_ENTRY_SIZE, LEAST_LIST_ENTRIES, MOST_LIST_ENTRIES, MOST_PCTFREE, UNDO_PART_SIZE, MOST_UNDO_PARTS, TXN_ENTRIES, MOST_TABLES, MOST_EXTENTS, EXTENTS_OF_L2, MOST_L2, ADVANCE_BLOCKS, LONGEST_NAME, MOST_SESSIONS, OWN_BLOCKS, CHECKPOINT_BLOCK, TXN_TABLE_BLOCK, CATALOGUE_BLOCK, SPACE_BLOCK, DOUBLE_WRITE_BLOCK, DOUBLE_WRITE_PAGES, LOG_HEAD_SIZE, FIRST_GATE, LEAST_BLOCKS, MOST_BLOCKS, LEAST_EXTENT_BLOCKS, MOST_EXTENT_BLOCKS, LEAST_UNDO_BLOCKS, MOST_UNDO_BLOCKS}
pub use Rattle.seg_base.specs.declared.failure.NoMemory.{NoMemory}
pub use Rattle.seg_base.specs.declared.class.Class.{Class}
pub use Rattle.seg_base.specs.declared.class.Class.TheVariants.{Unformatted, Full, Fs1, Fs2, Fs3, Fs4}
pub use Rattle.seg_base.specs.declared.shape.Shape.{Shape}
pub use Rattle.seg_base.specs.declared.shape.ShapeNumber.{ShapeNumber}
pub use Rattle.seg_base.specs.declared.shape.ShapeNumber.TheVariants.{Blocks, Extent, Undo}
pub use Rattle.seg_base.specs.declared.slot.Slot.{Slot}
pub use Rattle.seg_base.specs.declared.slot.Kind.{Kind}
pub use Rattle.seg_base.specs.declared.slot.Kind.TheVariants.{Empty, Row, Head, Body}
pub use Rattle.seg_base.specs.declared.slot.Writer.{Writer}
pub use Rattle.seg_base.specs.declared.slot.Writer.TheVariants.{By, At}
pub use Rattle.seg_base.specs.declared.slot.UndoAddr.{UndoAddr}
pub use Rattle.seg_base.specs.declared.slot.Rowid.{Rowid}
pub use Rattle.seg_base.specs.declared.slot.Taker.{Taker}
pub use Rattle.seg_base.specs.declared.slot.Taker.TheVariants.{New, Open, Shrink}
pub use Rattle.seg_base.specs.declared.slot.ListEntry.{ListEntry}
pub use Rattle.seg_base.specs.declared.undo.UndoPlace.{UndoPlace}
pub use Rattle.seg_base.specs.Blocks.{Block, new_block, new_entry, new_slot, put, put_entry, put_slot}
pub use Rattle.seg_base.specs.Classes.{class_code, class_from, class_of, of_quarters}
pub use Rattle.seg_base.specs.Cleaning.{as_committed, as_told, clean_block, clean_entry, clean_slot, entry_as_told, number_of, number_of_writer}
pub use Rattle.seg_base.specs.Faults.{HasCause, Rose}
pub use Rattle.seg_base.specs.Fields.{number_in, put_at}
pub use Rattle.seg_base.specs.Images.{kind_code, kind_from, link_bytes, link_or_zeros, sizes_bytes, slot_bytes, undo_bytes, undo_or_zeros, writer_from, writer_number, writer_tag}
pub use Rattle.seg_base.specs.Places.{data_place, first_block, head_blocks, is_extent, is_shape, wrong_number}
pub use Rattle.seg_base.specs.Room.{class_of_block, entry_for, entry_need, entry_size, fits, fits_beside, free_of, has_room, is_empty, is_reusable, is_spare, made_entry, names, next_room, other_entry, row_growth, row_size, slot_need, slot_size, slot_to_use, takes, takes_beside, used_of, writer_has_ended}
pub use Rattle.seg_base.specs.Words.{is_lower, is_name, is_name_byte}
pub use Rattle.std.specs.List.{AllByRecursion, common_prefix_len, list_all, list_any, onto_first, position_or_len}
pub use Rattle.std.specs.Int.{Width, byte_len, from_be_bytes, to_be_bytes, w16, w32, w64}
