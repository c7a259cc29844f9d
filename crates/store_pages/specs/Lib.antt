pub mod Pages
pub mod Fitting
pub mod Redoing
pub mod Filed
pub mod Refused
