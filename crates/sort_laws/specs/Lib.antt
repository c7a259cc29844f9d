pub mod Touched
pub mod Sorts
