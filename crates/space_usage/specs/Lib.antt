pub mod Named
pub mod Asked
pub mod Keeping
pub mod Settles
pub mod Counting
pub mod Fixing
pub mod Sums
