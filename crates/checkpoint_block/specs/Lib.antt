pub mod Points
pub mod Types
