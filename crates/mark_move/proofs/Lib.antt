pub mod Drafting
pub mod Truth
pub mod Tabling
