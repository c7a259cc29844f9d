pub mod Repairs
pub mod Doings
pub mod Sessions
pub mod Done
pub mod Worlds
pub mod Laws
