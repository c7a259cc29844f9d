pub mod Alike
pub mod Fronts
pub mod PiecesIn
pub mod SlotsAgain
pub mod Ranges
