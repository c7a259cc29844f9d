pub mod Reading
pub mod Listing
pub mod Standing
pub mod Places
pub mod Sessions
