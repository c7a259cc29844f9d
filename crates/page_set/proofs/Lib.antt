pub mod Adding
pub mod Quiet
pub mod SaysLaw
pub mod LsnLaw
pub mod ListedLaw
pub mod ReadAgain
