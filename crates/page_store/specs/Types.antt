-- The types and the words of this crate, for the crates above and for proofs: import them from here. Declares nothing.
pub use Rattle.page_store.specs.declared.fault.PageFault.{PageFault}
pub use Rattle.page_store.specs.declared.fault.PageFault.TheVariants.{DeviceFault, BadPage, NoMemory}
pub use Rattle.page_store.specs.declared.page.RawPage.{RawPage}
pub use Rattle.page_store.specs.declared.area.TheConstants.{AREA_AT, COPIES_AT, AREA_END, FIRST_COPY, LAST_COPY, NUMBERS_AT}
pub use Rattle.page_store.specs.Pages.{part, block, gate, numbers, head_blocks, copy, copies, copies_of, page_in, page_of, is_place, are_apart, is_batch, is_sound_area, needs_finish, HasPages}
pub use Rattle.page_store.specs.Batches.{blocks_of, after, IsShut, IsUnfinished, AsLong, IsStore, Leads, OnlyData, LeavesLog, WholeOrNot, IsPartRead, IsHeadRead, IsAreaFound, IsOpening, IsLook, Answers, Names}
pub use Rattle.page_store.specs.Steps.{dba_bytes, IsNotIn, AreWhole, HasCopies, IsCopied, IsOpened, InPlace, IsPlaced}
