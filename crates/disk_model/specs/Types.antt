-- The types and the words of this crate, for the crates above and for proofs: import them from here. Declares nothing.
pub use Rattle.disk_model.specs.declared.disk.File.{File}
pub use Rattle.disk_model.specs.declared.disk.File.TheVariants.{Data, Log}
pub use Rattle.disk_model.specs.declared.memory.Memory.{Memory}
pub use Rattle.disk_model.specs.declared.memory.Change.{Change}
pub use Rattle.disk_model.specs.declared.memory.Change.TheVariants.{Write, Broken, Sync}
pub use Rattle.disk_model.specs.declared.memory.DatedChange.{DatedChange}
pub use Rattle.disk_model.specs.declared.memory.Tear.{Tear}
pub use Rattle.disk_model.specs.declared.memory.Tear.TheVariants.{Old, New, Zero}
pub use Rattle.disk_model.specs.declared.stopping.Stopping.{Stopping}
pub use Rattle.disk_model.specs.declared.crashed.Contents.{Contents}
pub use Rattle.disk_model.specs.Files.{Files, content, put, written, Torn, TornFile, AreShort}
pub use Rattle.disk_model.specs.Crash.{Meaning, Now, SameImages, Elapses, Leaves, Always, Rises, Causes, CountsRead, CanWrite, Untouched}
pub use Rattle.disk_model.specs.Only.{OnlyFile, IsSettled, IsPut, Settles}
pub use Rattle.disk_model.specs.History.{both, seen_step, seen_after, IsLeftBy, IsLeftAfter, is_by, fits, is_in_range, IsImageAfter, IsImageAt}
pub use Rattle.disk_model.specs.Memory.{first_files, memory_files, memory_crash_at, memory_meaning, IsNew, IsDurable, fails_at, PassesOver, Adds, Stays}
pub use Rattle.disk_model.specs.AsRead.{torn_same, torn_written, torn_file_same, torn_file_written, length-done, length-written, after_read, memory_as_read}
pub use Rattle.disk_model.specs.Short.{memory_short}
pub use Rattle.disk_model.specs.Picked.{torn_bytes, pick_step, picked, picked_files}
pub use Rattle.disk_model.specs.Stopping.{inside, IsPassing, stopping_meaning, stopping_in_time, stopping_as_read, StopsHere}
pub use Rattle.disk_model.specs.Contents.{files_of}
