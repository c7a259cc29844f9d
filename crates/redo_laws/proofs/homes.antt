-- In which block a slot may hold what, and heads and bodies.
pub mod Homes
pub mod HomesLaw
pub mod Pairs
pub mod PairsLaw
