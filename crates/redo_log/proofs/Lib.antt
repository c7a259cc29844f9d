pub mod Payloads
pub mod Walking
pub mod Adding
pub mod Acknowledging
pub mod Once
pub mod Sound
