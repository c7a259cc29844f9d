pub mod Types
pub mod Pages
pub mod Batches
pub mod Steps
