pub mod Given
pub mod EndBack
pub mod Taking
pub mod Gathering
pub mod Backing
pub mod Numbers
