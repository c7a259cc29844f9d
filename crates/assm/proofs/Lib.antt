pub mod Told
pub mod Ending
pub mod Made
pub mod Asked
pub mod Counted
pub mod Summed
