pub mod Known
pub mod Asked
pub mod Walks
pub mod Drafted
pub mod Answered
pub mod Means
