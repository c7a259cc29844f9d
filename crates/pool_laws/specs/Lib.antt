pub mod Reached
pub mod Folds
