pub mod Stops
pub mod Cursor
pub mod CursorLaws
pub mod Grown
pub mod Named
pub mod Heads
pub mod Lowered
