pub mod LocatedLaw
