pub mod Pages
pub mod Pieces
pub mod Slots
pub mod Entries
pub mod EntriesAgain
pub mod Types
