pub mod Putting
pub mod Kinds
