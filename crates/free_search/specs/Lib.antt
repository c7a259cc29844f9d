pub mod Looks
pub mod Codes
pub mod Walks
pub mod Answers
