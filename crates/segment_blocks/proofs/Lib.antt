pub mod Extents
pub mod Forms
pub mod Searching
pub mod Headings
pub mod Marking
