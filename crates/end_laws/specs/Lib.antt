pub mod Ending
pub mod Backing
pub mod Beginning
pub mod Types
