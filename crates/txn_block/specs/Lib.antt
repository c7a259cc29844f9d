pub mod OwnTypes
pub mod Entries
pub mod Tables
pub mod EntryBytes
pub mod EntryAgain
pub mod Pages
pub mod Again
pub mod Types
