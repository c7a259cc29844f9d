-- The types and the words of this crate, for the crates above and for proofs: import them from here. Declares nothing.
pub use Rattle.page_bytes.specs.declared.fault.PageFault.{PageFault}
pub use Rattle.page_bytes.specs.declared.fault.PageFault.TheVariants.{BadPage, NoMemory}
pub use Rattle.page_bytes.specs.declared.slot.SlotFields.{SlotFields}
pub use Rattle.page_bytes.specs.Entries.{entry_bytes, entry_from, IsListEntry}
pub use Rattle.page_bytes.specs.Pages.{page_of, over, IsFront, head_bytes, first_wrong, Decodes, IsReadAs}
unfoldable pub use Rattle.page_bytes.specs.Pieces.{pieces_in}
pub use Rattle.page_bytes.specs.Slots.{fields_in, kind_as, writer_as, undo_as, link_as, len_as, room_as, row_len, slot_as, UndoFits, LinkFits, IsSlot, UndoIsThere, LinkIsThere, HasSlotForm}
