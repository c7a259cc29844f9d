pub mod ClassesLaw
pub mod NamedLaw
pub mod CleanedLaw
