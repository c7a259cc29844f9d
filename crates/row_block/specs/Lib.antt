pub mod RowPage
pub mod Answers
pub mod Spelling
pub mod Faults
pub mod Again
pub mod Types
