pub mod Again
pub mod Said
pub mod Written
