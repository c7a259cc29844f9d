pub mod CountsLaw
