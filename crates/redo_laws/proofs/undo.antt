-- That undo is enough, and what its addresses lead to.
pub mod Economy
pub mod EconomyLaw
pub mod ReadsLaw
