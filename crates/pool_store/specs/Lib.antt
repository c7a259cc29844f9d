pub mod Store
pub mod Survives
pub mod Causes
pub mod Refused
pub mod Preparing
pub mod Adding
pub mod Putting
pub mod Undo
