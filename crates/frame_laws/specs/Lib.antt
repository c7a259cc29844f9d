pub mod Touching
pub mod Showing
