pub mod Begins
pub mod Backs
