pub mod Drafts
pub mod Lowers
pub mod Kept
pub mod Worked
