pub mod Saying
pub mod Codes
pub mod Free
