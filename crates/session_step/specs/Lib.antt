pub mod Bindings
pub mod Stages
pub mod Turning
pub mod Telling
pub mod Events
pub mod Stepping
