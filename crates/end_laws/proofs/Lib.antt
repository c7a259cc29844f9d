pub mod Allowed
pub mod Telling
pub mod Begins
