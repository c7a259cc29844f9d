-- The types and the words of this crate, for the crates above and for proofs: import them from here. Declares nothing.
pub use Rattle.row_block.specs.declared.block.RowBlock.{RowBlock}
pub use Rattle.row_block.specs.declared.fault.BlockFault.{BlockFault}
pub use Rattle.row_block.specs.declared.fault.BlockFault.TheVariants.{NoRoom, NoSlot, BadPage, NoMemory}
pub use Rattle.row_block.specs.Answers.{Fills, Puts, txns_of, RefusesEntry, Enters}
pub use Rattle.row_block.specs.Faults.{fault_of}
pub use Rattle.row_block.specs.RowPage.{RowPage, with_block, laid_out, laid_slots, IsImage, IsHeld, IsLaid, CanPut, CanEnter, counted, growth_of, need_of}
pub use Rattle.row_block.specs.Spelling.{row_bytes, front_of, IsRowPage, entry_count, slot_count, page_with, Decodes, IsReadAs}
unfoldable pub use Rattle.row_block.specs.Spelling.{spelling, slots_in, page_in}
