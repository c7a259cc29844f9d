pub mod StayingLaw
pub mod RowsStayLaw
pub mod ChangesLaw
