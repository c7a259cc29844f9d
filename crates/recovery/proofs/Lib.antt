pub mod Nexting
pub mod Going
pub mod Loops
pub mod Refusals
pub mod Reading
pub mod TakenBack
pub mod Formatted
