pub mod Parts
pub mod Fits
pub mod UndoPages
pub mod Txns
