pub mod Entered
pub mod BackHomes
