pub mod Ranges
pub mod PageForms
pub mod Standing
