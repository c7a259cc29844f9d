pub mod Naming
pub mod Stored
pub mod Bitmaps
pub mod Drafting
pub mod Walks
pub mod Fixes
pub mod SumsLaw
