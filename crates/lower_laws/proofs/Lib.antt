pub mod KeptLaw
pub mod BestsAfter
pub mod LowersLaw
pub mod Computing
