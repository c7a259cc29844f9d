pub mod Named
pub mod Drafts
pub mod Settling
pub mod Told
pub mod Bests
pub mod Worked
pub mod Types
