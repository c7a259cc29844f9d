pub mod Marks
pub mod Extents
pub mod Bests
pub mod Incarnations
pub mod Tables
