-- Each image and the record that made it.
pub mod Links
pub mod ChainLaw
pub mod WritersLaw
