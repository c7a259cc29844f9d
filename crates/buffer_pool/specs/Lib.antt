pub mod Frames
pub mod Recent
pub mod Reading
pub mod Preparing
pub mod Batches
pub mod Looks
