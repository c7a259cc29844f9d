pub mod Own
pub mod OwnersLaw
