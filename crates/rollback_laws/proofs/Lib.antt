pub mod Rolling
pub mod Counts
pub mod StepsLaw
pub mod ClosingLaw
pub mod GoesOnLaw
