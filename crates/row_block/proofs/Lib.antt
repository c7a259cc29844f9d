pub mod Cleaned
pub mod Held
pub mod Laid
pub mod Reading
pub mod Writing
pub mod InRange
