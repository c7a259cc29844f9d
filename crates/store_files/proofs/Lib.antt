pub mod Zeros
mod Faults
