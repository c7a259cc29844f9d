-- Extents, marks and data blocks.
pub mod LowMark
pub mod Places
pub mod Apart
pub mod ApartLaw
