pub mod Movements
pub mod Drafts
pub mod Moves
pub mod Searches
pub mod Refusals
pub mod There
pub mod Worked
