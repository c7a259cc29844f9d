pub mod Codes
pub mod Pages
pub mod Again
pub mod Types
