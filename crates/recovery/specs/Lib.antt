pub mod Next
pub mod Coming
pub mod Refused
pub mod FaultOf
pub mod Opened
