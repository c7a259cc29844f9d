pub mod Keeping
pub mod Alone
pub mod Going
pub mod Events
pub mod Settling
pub mod Running
pub mod Repairing
