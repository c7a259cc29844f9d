pub mod MarksLaw
pub mod ExtentsLaw
pub mod BestsLaw
pub mod IncarnationsLaw
pub mod TablesLaw
