pub mod Classes
pub mod Named
pub mod Cleaned
