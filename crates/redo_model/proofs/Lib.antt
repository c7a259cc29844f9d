pub mod Cleaned
pub mod LawfulRuns
pub mod NotAllowed
pub mod Bridge
pub mod Computing
