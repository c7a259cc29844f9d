pub mod Passing
pub mod Targets
pub mod OneHistory
mod TwoHistories
mod RefusedHistories
mod ShrunkHistories
mod MigratedHistories
mod ScannedHistories
