pub mod Heads
pub mod Needs
