pub mod Counting
pub mod BeginsLaw
pub mod BacksLaw
