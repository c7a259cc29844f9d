pub mod There
pub mod PuttingLaw
pub mod KindsLaw
pub mod FoundLaw
