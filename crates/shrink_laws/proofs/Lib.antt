pub mod GrownLaw
pub mod NamedLaw
pub mod CursorLaw
pub mod HeadsLaw
pub mod LoweredLaw
