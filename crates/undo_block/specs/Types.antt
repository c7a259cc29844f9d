-- The types and the words of this crate, for the crates above and for proofs: import them from here. Declares nothing.
pub use Rattle.undo_block.specs.declared.block.UndoBlock.{UndoBlock}
pub use Rattle.undo_block.specs.declared.fault.UndoFault.{UndoFault}
pub use Rattle.undo_block.specs.declared.fault.UndoFault.TheVariants.{NoRoom, BadPage, NoMemory}
pub use Rattle.undo_block.specs.declared.part.Part.{Part}
pub use Rattle.undo_block.specs.Faults.{fault_of}
pub use Rattle.undo_block.specs.Held.{IsHeld, Appends, AppendsAt}
pub use Rattle.undo_block.specs.Parts.{part_size, used_by, PlaceIsThere, HasPartForm, is_held, lesser, with_part, holder_of}
pub use Rattle.undo_block.specs.UndoPage.{UndoPage, previous_or_zeros, previous_as, part_head, fields_of, front_of, len_in, part_from, PlaceFits, IsPart, IsUndoPage, Decodes, IsReadAs}
unfoldable pub use Rattle.undo_block.specs.UndoPage.{part_bytes, spelling, parts_in, page_in}
