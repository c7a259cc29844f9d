pub mod FormLaw
pub mod PartsLaw
pub mod BackLaw
pub mod FitsLaw
pub mod UndoLaw
pub mod TxnsLaw
