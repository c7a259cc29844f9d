-- All words of this crate's specs, one line a file, for crates above it.
pub use Rattle.end_laws.specs.Ending.{entry_or, table_place, commit_of, ended_of, back_of, backed_with, backed, blocks_in, blocks_of_step, MayCommit, MayEnd, CommitsAreAllowed, EndsAreAllowed, BacksAreAllowed}
pub use Rattle.end_laws.specs.Backing.{held_of, PartTold, extent_number, IsInExtent, present_addr, BackTold, BacksAreTold}
pub use Rattle.end_laws.specs.Beginning.{MayBegin, BeginsAreTold}
