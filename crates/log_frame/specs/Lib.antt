pub mod Types
pub mod Head
pub mod Frame
pub mod Spelling
pub mod Ready
pub mod Found
pub mod Reading
