-- Rows in one place each, views, and that both stay.
pub mod Spread
pub mod Stays
pub mod Views
pub mod Union
pub mod Fitting
pub mod Whole
pub mod SpreadLaw
pub mod StaysLaw
pub mod InOrder
pub mod ScanLaw
pub mod PastLaw
