-- Numbers, and what is known of transactions.
pub mod Ordinals
pub mod Known
pub mod TxnTable
pub mod Bounds
