pub mod Redoing
pub mod Plain
pub mod Written
pub mod Folds
