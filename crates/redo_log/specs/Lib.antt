pub mod Faults
pub mod Kept
pub mod Groups
pub mod Found
pub mod Lasting
