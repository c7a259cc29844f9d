pub mod Staying
pub mod RowsStay
pub mod Changes
