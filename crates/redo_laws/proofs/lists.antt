-- Lists, folds and counts.
pub mod Bools
pub mod Every
pub mod Among
pub mod Sums
pub mod Prefixes
pub mod Since
