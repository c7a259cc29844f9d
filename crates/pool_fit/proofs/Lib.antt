pub mod TouchedLaw
pub mod FitsLaw
