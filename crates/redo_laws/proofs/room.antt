-- What blocks count, and that it fits.
pub mod RoomKinds
pub mod RoomLaw
pub mod FitLaw
