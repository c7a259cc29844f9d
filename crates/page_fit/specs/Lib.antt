pub mod FitPages
pub mod Headers
pub mod Tables
