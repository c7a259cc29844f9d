pub mod Touched
pub mod RowFits
pub mod Undo
pub mod Transactions
pub mod Types
