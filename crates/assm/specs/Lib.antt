pub mod Status
pub mod Words
pub mod Top
pub mod Ends
pub mod Checks
pub mod Generates
