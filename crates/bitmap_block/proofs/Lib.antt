pub mod BestOf
pub mod Reading
pub mod Forms
pub mod Clearing
