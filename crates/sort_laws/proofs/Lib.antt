pub mod TouchedLaw
pub mod SortsLaw
pub mod MeetsLaw
