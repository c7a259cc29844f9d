pub mod Faults
pub mod Parts
pub mod UndoPage
pub mod Again
pub mod Held
pub mod Types
