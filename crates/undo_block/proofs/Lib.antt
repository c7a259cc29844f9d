pub mod Sizes
pub mod Forms
pub mod Reading
pub mod Holding
pub mod Writing
