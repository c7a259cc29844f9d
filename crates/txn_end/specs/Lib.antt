pub mod Reading
pub mod Owning
pub mod Backing
