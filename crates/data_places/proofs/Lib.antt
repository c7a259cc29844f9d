pub mod Counting
pub mod PlacesLaw
