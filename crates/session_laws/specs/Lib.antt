pub mod Sessions
pub mod Owners
